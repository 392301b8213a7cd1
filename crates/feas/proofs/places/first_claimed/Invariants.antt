use Rattle.lab_model.specs.Rules.{keeps_f1}
use Rattle.lab_model.specs.Feasible.{AllPass}
use Rattle.feas.proofs.places.first_claimed.Given as goal

abbrev pub invariant-loop-virt : goal.invariant-loop-virt
invariant-loop-virt l = AllPass l.virt (keeps_f1 l.free l.mapping)
