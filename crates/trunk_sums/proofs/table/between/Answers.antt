use Rattle.std.proofs.Common.{◌+◌, List, length, ap, sym, subst, arith}
use Rattle.phys_lab.proofs.TrunkCount.{few_trunks}
use Rattle.trunk_sums.specs.declared.crossing.Crossing.{Crossing}
use Rattle.trunk_sums.specs.Between.{AreBetween}
use Rattle.trunk_sums.proofs.BetweenLaws.{between_more}
use Rattle.trunk_sums.proofs.table.between.Goals as goal

pub overflow_cast-trunk : goal.overflow_cast-trunk
overflow_cast-trunk c = omega (arith, few_trunks c.args.lab.now c.range-kept.ensures.lab, c.loop-number-test.true, ap length c.trunks-number-end.ensures.list)

pub loop-number-preserved : goal.loop-number-preserved
loop-number-preserved c =
    subst (λ (l : List Crossing). AreBetween c.args.lab.now c.args.from.0 c.args.to.0 (c.loop-number.number + 1) l) (sym c.in_ok-push_crossing.ensures)
    (between_more c.args.lab.now c.args.from.0 c.args.to.0 c.loop-number.number c.side-left.result c.side-taken.result c.loop-number.listed c.loop-number.invariant c.side-left.ensures.test c.side-taken.ensures.test)
