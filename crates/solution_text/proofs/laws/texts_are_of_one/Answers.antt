use Rattle.std.proofs.Common.{◌≡◌, Ok, sym, ap, ◌∙◌}
use Rattle.solution_text.specs.Solutions.{mapping_of_text}
use Rattle.solution_text.proofs.SolutionAgain.{canonical_again}
use Rattle.solution_text.proofs.laws.texts_are_of_one.Goals as goal

pub returns : goal.returns
returns c = λ lab w m n is sound named a b same.
    let both : Ok m ≡ Ok n = sym (canonical_again lab w m is sound named a) ∙ ap (mapping_of_text lab w) same ∙ canonical_again lab w n is sound named b in cc both
