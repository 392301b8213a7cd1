use Rattle.lab_model.specs.Rules.{keeps_f5}
use Rattle.lab_model.specs.Feasible.{AllPass}
use Rattle.feas.proofs.plugs.first_misplugged.Given as goal

abbrev pub invariant-loop-end : goal.invariant-loop-end
invariant-loop-end l = AllPass l.end (keeps_f5 l.lab l.wiring l.mapping)
