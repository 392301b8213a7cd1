use Rattle.lab_model.specs.Rules.{keeps_f2}
use Rattle.lab_model.specs.Feasible.{AllPass}
use Rattle.feas.proofs.nodes.first_of_nodes.Given as goal

abbrev pub invariant-loop-node : goal.invariant-loop-node
invariant-loop-node l = AllPass l.node (keeps_f2 l.lab l.wiring l.mapping)
