use Rattle.std.proofs.Common.{length}
use Rattle.plain_model.proofs.wants.+push_cables.Given as goal

abbrev pub decreases-push_cables : goal.decreases-push_cables
decreases-push_cables l = length l.segments.now
