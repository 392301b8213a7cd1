use Rattle.lab_model.specs.Rules.{keeps_f2, place_at}
use Rattle.lab_model.specs.Feasible.{AllPass}
use Rattle.feas.proofs.nodes.are_shared.Given as goal

abbrev pub invariant-loop-virt : goal.invariant-loop-virt
invariant-loop-virt l = AllPass l.virt (λ v. keeps_f2 l.lab l.wiring l.mapping (place_at l.mapping v).0.0)
