-- Lists of bytes in two parts.
use Rattle.std.proofs.Common.{◌≡◌, ℕ, ◌^◌, ◌<◌, List, ◌++◌, length, take, drop, refl, sym, ap, ◌∙◌}
use Rattle.std.proofs.lemmas.List.{take_at, drop_at}
use Rattle.journal_rec.specs.Payloads.{le, number}
use Rattle.journal_rec.proofs.Numbers.{number_le}

-- fronts of one length
pub halves : (p q x y : List ℕ) → length p ≡ length q → p ++ x ≡ q ++ y → (p ≡ q) × (x ≡ y)
halves p q x y size e = (
  sym (take_at p x (length p) refl) ∙ ap (λ l. take (length p) l) e ∙ take_at q y (length p) (sym size),
  sym (drop_at p x (length p) refl) ∙ ap (λ l. drop (length p) l) e ∙ drop_at q y (length p) (sym size),
)

-- a number of bytes is one number
pub le_once : (k m n : ℕ) → m < 256 ^ k → n < 256 ^ k → le k m ≡ le k n → m ≡ n
le_once k m n a b e = sym (number_le k m a) ∙ ap number e ∙ number_le k n b
