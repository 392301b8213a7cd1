use Rattle.std.proofs.Common.{length}
use Rattle.plain_model.proofs.cabled.+are_cabled.Given as goal

abbrev pub decreases-are_cabled : goal.decreases-are_cabled
decreases-are_cabled l = length l.experiments.now
