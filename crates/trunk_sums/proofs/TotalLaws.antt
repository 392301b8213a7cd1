-- A sum of a list is a sum over its numbers.
use Rattle.std.proofs.Common.{◌≡◌, ◌<◌, ◌≤◌, ◌+◌, ℕ, zero, suc, List, length, take, get_or, refl, ap, arith}
use Rattle.std.proofs.Math.Seq.{take-length}
use Rattle.std.specs.List.{sum_by}
use Rattle.std.proofs.lemmas.List.Sums.{sum_by_more}
use Rattle.trunk_sums.specs.Totals.{sum_below}

front : (xs : List ℕ) (f : ℕ → ℕ) (n : ℕ) → n ≤ length xs → ((t : ℕ) → t < length xs → get_or xs t 0 ≡ f t) → sum_by (λ (u : ℕ). u) (take n xs) ≡ sum_below n f
front xs f zero le same = refl
front xs f (suc n) le same =
    let more = sum_by_more (λ (u : ℕ). u) xs n 0 (omega (arith, le)) in
    let rest = front xs f n (omega (arith, le)) same in
    let last = same n (omega (arith, le)) in
    let next : ◌≡◌ {A = ℕ} (suc n) (n + 1) = omega arith in
    let taken : ◌≡◌ {A = ℕ} (sum_by (λ (u : ℕ). u) (take (suc n) xs)) (sum_by (λ (u : ℕ). u) (take (n + 1) xs)) = ap (λ (k : ℕ). sum_by (λ (u : ℕ). u) (take k xs)) next in
    omega (arith, more, rest, last, taken)

pub sum_is : (xs : List ℕ) (f : ℕ → ℕ) → ((t : ℕ) → t < length xs → get_or xs t 0 ≡ f t) → sum_by (λ (u : ℕ). u) xs ≡ sum_below (length xs) f
sum_is xs f same =
    let whole : ◌≡◌ {A = ℕ} (sum_by (λ (u : ℕ). u) (take (length xs) xs)) (sum_by (λ (u : ℕ). u) xs) = ap (λ (l : List ℕ). sum_by (λ (u : ℕ). u) l) (take-length xs) in
    let all = front xs f (length xs) (omega arith) same in
    omega (arith, whole, all)
