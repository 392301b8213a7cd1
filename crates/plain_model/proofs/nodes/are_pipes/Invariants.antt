use Rattle.lab_model.specs.Feasible.{AllPass}
use Rattle.plain_model.specs.Cabling.{is_pipe}
use Rattle.plain_model.proofs.nodes.are_pipes.Given as goal

abbrev pub invariant-loop-number : goal.invariant-loop-number
invariant-loop-number l = AllPass l.number (is_pipe l.commands l.name l.pipes)
