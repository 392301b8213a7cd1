-- Sums that rest.
use Rattle.std.proofs.Common.{◌≡◌, ◌∙◌, Option, Some, None, refl, sym, ap}
use Rattle.std.specs.Prelude.{IsSome, is_some, ◌↔◌}
use Rattle.std.proofs.lemmas.Bool.{false≢true}

-- where nothing is told there is nothing
pub rests : {A B : Type 0} (o : Option A) (p : Option B) → (IsSome o ↔ IsSome p) → o ≡ None → p ≡ None
rests o None both none = refl
rests o (Some y) both none = absurd (false≢true (sym (ap is_some none) ∙ both.1 refl))
