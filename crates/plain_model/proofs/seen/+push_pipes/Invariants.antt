use Rattle.std.proofs.Common.{length}
use Rattle.plain_model.proofs.seen.+push_pipes.Given as goal

abbrev pub decreases-push_pipes : goal.decreases-push_pipes
decreases-push_pipes l = length l.rest.now
