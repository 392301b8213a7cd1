use Rattle.std.proofs.Common.{length}
use Rattle.swap_plan.proofs.nodes.+push_pipes.Given as goal

abbrev pub decreases-push_pipes : goal.decreases-push_pipes
decreases-push_pipes l = length l.pipes.now
