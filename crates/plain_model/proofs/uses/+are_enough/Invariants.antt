use Rattle.std.proofs.Common.{length}
use Rattle.plain_model.proofs.uses.+are_enough.Given as goal

abbrev pub decreases-are_enough : goal.decreases-are_enough
decreases-are_enough l = length l.experiments.now
