use Rattle.solution_text.proofs.SolutionAgain.{canonical_again}
use Rattle.solution_text.proofs.laws.texts_are_read_back.Goals as goal

pub returns : goal.returns
returns c = λ lab w m is sound named shaped. canonical_again lab w m is sound named shaped
