-- The rest of a list after so many.
use Rattle.std.proofs.Common.{◌≡◌, ◌≤◌, ◌<◌, ℕ, zero, suc, List, [], ◌∷◌, drop, length, get_or, refl, sym, ap, arith}

-- ---- LISTS
drop_suc : {X : Type 0} (xs : List X) (i : ℕ) (x : X) → i < length xs → x ≡ get_or xs i x → drop i xs ≡ x ∷ drop (suc i) xs
drop_suc [] i x lt is = absurd (omega (arith, lt))
drop_suc (y ∷ ys) zero x lt is = ap (λ z. z ∷ ys) (sym is)
drop_suc (y ∷ ys) (suc i) x lt is = drop_suc ys i x (omega (arith, lt)) is

pub drop_all : {X : Type 0} (xs : List X) (i : ℕ) → length xs ≤ i → drop i xs ≡ []
drop_all [] zero le = refl
drop_all [] (suc i) le = refl
drop_all (y ∷ ys) zero le = absurd (omega (arith, le))
drop_all (y ∷ ys) (suc i) le = drop_all ys i (omega (arith, le))
