-- Sums of numbers: one more, alike, and added up.
use Rattle.std.proofs.Common.{◌≡◌, ◌<◌, ℕ, zero, suc, ◌+◌, refl, ap, arith, ◌≢◌, inl, inr, sym}
use Rattle.std.proofs.lemmas.Bool.{cases_eq}
use Rattle.cost_rule.specs.Cost.{sum_below}

pub sum_more : (n : ℕ) (f : ℕ → ℕ) → sum_below (n + 1) f ≡ sum_below n f + f n
sum_more n f = let next : n + 1 ≡ suc n = omega arith in ap (λ (k : ℕ). sum_below k f) next

pub sum_same : (n : ℕ) (f g : ℕ → ℕ) → ((k : ℕ) → k < n → f k ≡ g k) → sum_below n f ≡ sum_below n g
sum_same zero f g same = refl
sum_same (suc n) f g same = let rest = sum_same n f g (λ k lt. same k (omega (arith, lt))) in let last = same n (omega arith) in omega (arith, rest, last)

pub sum_plus : (n : ℕ) (f g : ℕ → ℕ) → sum_below n (λ k. f k + g k) ≡ sum_below n f + sum_below n g
sum_plus zero f g = refl
sum_plus (suc n) f g = let rest = sum_plus n f g in omega (arith, rest)

-- sums that differ in one number
pub sum_at : (n v : ℕ) (f g : ℕ → ℕ) → v < n → ((k : ℕ) → k < n → k ≢ v → f k ≡ g k) → sum_below n f + g v ≡ sum_below n g + f v
sum_at zero v f g lt same = absurd (omega (arith, lt))
sum_at (suc n) v f g lt same = elim (cases_eq v n) [
  | inl is ↦ (
      let rest = sum_same n f g (λ k less. same k (omega (arith, less)) (λ e. absurd (omega (arith, e, is, less)))) in
      let one : ◌≡◌ {A = ℕ} (f n) (f v) = ap f (sym is) in
      let other : ◌≡◌ {A = ℕ} (g n) (g v) = ap g (sym is) in
      omega (arith, rest, one, other))
  | inr apart ↦ (
      let rest = sum_at n v f g (omega (arith, lt, apart)) (λ k less ne. same k (omega (arith, less)) ne) in
      let last = same n (omega arith) (λ e. apart (sym e)) in
      omega (arith, rest, last))
]
