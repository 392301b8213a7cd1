use Rattle.std.proofs.Common.{◌≡◌, ℕ, List, filter, Bor, ap, ◌∙◌, rules}
use Rattle.std.proofs.lemmas.Fn.{filter_same}
use Rattle.lab_base.specs.Texts.{is_filled, views}
use Rattle.lab_base.proofs.FieldLaws.{map-filter}
use Rattle.ns_build.proofs.words.elements_in.Goals as goal

pub returns : goal.returns
returns c =
    let now : Bor (List ℕ) → List ℕ = λ slice. slice.now in
    let kept : c.retain.new.self.items ≡ filter (λ slice. is_filled (now slice)) c.in_ok-elements.elements.items = filter_same _ (λ slice. is_filled (now slice)) _ (λ x b q k. search rules) _ _ c.retain.ensures.filtered in
    ap views kept ∙ map-filter now is_filled c.in_ok-elements.elements.items ∙ ap (filter is_filled) c.in_ok-elements.ensures
