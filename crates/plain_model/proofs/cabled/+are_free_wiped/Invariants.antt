use Rattle.std.proofs.Common.{length}
use Rattle.plain_model.proofs.cabled.+are_free_wiped.Given as goal

abbrev pub decreases-are_free_wiped : goal.decreases-are_free_wiped
decreases-are_free_wiped l = length l.rest.now
