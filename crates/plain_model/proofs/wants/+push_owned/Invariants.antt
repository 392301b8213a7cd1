use Rattle.std.proofs.Common.{length}
use Rattle.plain_model.proofs.wants.+push_owned.Given as goal

abbrev pub decreases-push_owned : goal.decreases-push_owned
decreases-push_owned l = length l.rows.now
