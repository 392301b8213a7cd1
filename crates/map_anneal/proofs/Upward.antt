-- From the numbers below one to the next.
use Rattle.std.proofs.Common.{◌≡◌, ℕ, ◌+◌, ◌<◌, Bool, true, false, nat_lt, arith, refl, sym, subst}
use Rattle.std.proofs.lemmas.Bool.Decides.{nat_tests}
use Rattle.std.proofs.lemmas.Bool.{ltb-true}

-- what holds below a number, and of it, holds below the next one
pub below_next : (P : ℕ → Type 0) (n : ℕ) → ((u : ℕ) → u < n → P u) → P n → (u : ℕ) → u < n + 1 → P u
below_next P n below here u lt = by (nat_lt u n) refl
  where
    last : (a b : ℕ) → a < b + 1 → nat_lt a b ≡ false → a ≡ b
    last a b next is = grind (arith, nat_tests)

    by : (b : Bool) → nat_lt u n ≡ b → P u
    by true is = below u (ltb-true u n is)
    by false is = subst P (sym (last u n lt is)) here
