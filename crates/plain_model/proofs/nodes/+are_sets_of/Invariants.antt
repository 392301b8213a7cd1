use Rattle.std.proofs.Common.{length}
use Rattle.plain_model.proofs.nodes.+are_sets_of.Given as goal

abbrev pub decreases-are_sets_of : goal.decreases-are_sets_of
decreases-are_sets_of l = length l.rest.now
