use Rattle.std.proofs.Common.{◌≡◌, Ok, sym, ap, ◌∙◌}
use Rattle.top_text.specs.Adding.{wiring_of_text}
use Rattle.top_text.proofs.TopWhole.{top_again}
use Rattle.top_text.proofs.laws.texts_are_of_one.Goals as goal

pub returns : goal.returns
returns c = λ w v a b p q same.
    let both : Ok w ≡ Ok v = sym (top_again w a p) ∙ ap wiring_of_text same ∙ top_again v b q in cc both
