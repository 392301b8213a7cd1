use Rattle.lab_model.specs.Feasible.{AllPass}
use Rattle.plain_model.specs.Cabling.{is_right_at}
use Rattle.plain_model.proofs.cabled.are_right.Given as goal

abbrev pub invariant-loop-node : goal.invariant-loop-node
invariant-loop-node l = AllPass l.node (is_right_at l.commands l.lab l.experiment)
