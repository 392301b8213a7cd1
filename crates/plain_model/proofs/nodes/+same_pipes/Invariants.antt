use Rattle.std.proofs.Common.{length}
use Rattle.plain_model.proofs.nodes.+same_pipes.Given as goal

abbrev pub decreases-same_pipes : goal.decreases-same_pipes
decreases-same_pipes l = length l.ones.now
