use Rattle.std.proofs.Common.{List, length, sym, subst}
use Rattle.trunk_sums.specs.declared.crossing.Crossing.{Crossing}
use Rattle.trunk_sums.specs.Between.{AreBetween}
use Rattle.trunk_sums.proofs.BetweenLaws.{crossed_of}
use Rattle.trunk_sums.proofs.table.Crossings.between.Goals as goal

pub returns : goal.returns
returns c =
    let lab = c.args.lab.now in
    let a = c.switch_of-one.result.0 in
    let b = c.switch_of-other.result.0 in
    crossed_of lab c.args.from c.args.to a b c.of.result.now c.requires.from c.requires.to c.switch_of-one.ensures.is c.switch_of-other.ensures.is
    (subst (λ (l : List Crossing). AreBetween lab a b (length lab.trunks) l) (sym c.of.ensures) (c.requires.table.each a b c.switch_of-one.ensures.within c.switch_of-other.ensures.within))
