use Rattle.complete.proofs.OpenEnds.{finished_none, forth_ends, solution_ends, turned_few}
use Rattle.complete.proofs.laws.swaps_end.Goals as goal

pub returns-clause-few : goal.returns-clause-few
returns-clause-few c = turned_few

pub returns-clause-finished : goal.returns-clause-finished
returns-clause-finished c = finished_none

pub returns-clause-forth : goal.returns-clause-forth
returns-clause-forth c = forth_ends

pub returns-clause-solutions : goal.returns-clause-solutions
returns-clause-solutions c = solution_ends
