-- The text of files that a loss of power leaves.
use Rattle.std.proofs.Common.{◌≡◌, ℕ, Bool, true, false, List, [], ◌∷◌, Some, None, refl, ap, ◌∙◌, if◌then◌else◌}
use Rattle.folder.specs.Files.{is_torn, text_by}

same : (b : Bool) (text : List ℕ) → (if b then text else text) ≡ text
same true text = refl
same false text = refl

-- a text alone
pub alone : (text : List ℕ) → text_by (Some text) None None ≡ text
alone text = same (is_torn text) text

-- the older one, where the newer one was not written whole
pub older : (torn text : List ℕ) → torn ≡ 0 ∷ [] → is_torn text ≡ false → text_by (Some torn) None (Some text) ≡ text
older torn text is whole =
    ap (λ (t : List ℕ). text_by (Some t) None (Some text)) is ∙ ap (λ (b : Bool). let z : List ℕ = 0 ∷ [] in if b then z else text) whole
