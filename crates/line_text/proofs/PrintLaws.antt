-- Canonical texts, one line more.
use Rattle.std.proofs.Common.{◌≡◌, ℕ, ◌+◌, ◌<◌, List, [], ◌∷◌, ◌++◌, length, take, get_or, map, sym, ap, ◌∙◌, append_assoc}
use Rattle.std.proofs.lemmas.List.{take_more, map-append, append-nil}
use Rattle.std.proofs.lemmas.Grind.{flat_map-append}
use Rattle.line_text.specs.Printing.{line_text, text_of}

pub text_more : {X : Type 0} (f : X → List (List ℕ)) (xs : List X) (i : ℕ) (x : X) (old text new : List ℕ) → i < length xs → x ≡ get_or xs i x
    → text ≡ old ++ text_of (map f (take i xs)) → new ≡ text ++ line_text (f x) → new ≡ old ++ text_of (map f (take (i + 1) xs))
text_more {X} f xs i x old text new lt is so_far more =
    let front = text_of (map f (take i xs)) in
    let step : text_of (map f (take (i + 1) xs)) ≡ front ++ line_text (f x) =
    ap (λ (l : List X). text_of (map f l)) (take_more xs i x lt)
    ∙ ap (λ (y : X). text_of (map f (take i xs ++ y ∷ []))) (sym is)
    ∙ ap (λ (l : List (List (List ℕ))). text_of l) (map-append f (take i xs) (x ∷ []))
    ∙ flat_map-append line_text (map f (take i xs)) (f x ∷ [])
    ∙ ap (λ (l : List ℕ). front ++ l) (append-nil (line_text (f x))) in
    more ∙ ap (λ (t : List ℕ). t ++ line_text (f x)) so_far ∙ append_assoc old front (line_text (f x)) ∙ ap (λ (l : List ℕ). old ++ l) (sym step)
