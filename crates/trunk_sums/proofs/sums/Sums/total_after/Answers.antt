use Rattle.std.proofs.Common.{◌∙◌, ℕ, ap, arith}
use Rattle.trunk_sums.specs.declared.made.Change.{Change}
use Rattle.trunk_sums.specs.Summed.{used}
use Rattle.trunk_sums.specs.Totals.{sum_below}
use Rattle.trunk_sums.proofs.TotalLaws.{sum_is}
use Rattle.trunk_sums.proofs.ShareLaws.{uses_before, uses_after}
use Rattle.trunk_sums.proofs.sums.Sums.total_after.Goals as goal

abbrev none : Change
none = record { end = 0; row = record { segment = 0; ends = 0; kbps = 0 }; to = record { 0 = 0 } }

pub loop-change-init : goal.loop-change-init
loop-change-init c =
    let summed = c.requires.summed in
    let f : ℕ → ℕ = used c.args.lab.now c.args.wiring.now c.args.plugs.now in
    record {
      total = summed.total
          ∙ sum_is c.args.self.now.uses.items f (λ t lt. summed.uses t (omega (arith, lt, summed.one_each)))
          ∙ ap (λ (n : ℕ). sum_below n f) summed.one_each;
    }

pub total_with-total-requires-clause-uses : goal.total_with-total-requires-clause-uses
total_with-total-requires-clause-uses c =
    uses_before c.args.lab.now c.args.wiring.now c.args.plugs.now c.args.changes.now c.loop-change.change-index none c.loop-change.total
    c.loop-change-test.true c.requires.plugged c.requires.changes c.requires.apart c.loop-change.invariant.total

pub loop-change-preserved : goal.loop-change-preserved
loop-change-preserved c = record {
  total = uses_after c.args.lab.now c.args.wiring.now c.args.plugs.now c.args.changes.now c.loop-change.change-index none c.loop-change.total c.total_with-total.result
      c.loop-change-test.true c.requires.plugged c.requires.changes c.requires.apart c.loop-change.invariant.total c.total_with-total.ensures;
}
