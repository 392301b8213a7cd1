-- Sums over numbers.
use Rattle.std.proofs.Common.{◌≡◌, ◌<◌, ◌≤◌, ◌+◌, ◌*◌, ◌∙◌, ℕ, zero, suc, refl, ap, sym, arith}
use Rattle.std.proofs.Math.Nat.{add-mul}
use Rattle.trunk_sums.specs.Totals.{sum_below}

pub sums_alike : (n : ℕ) (a b c d : ℕ → ℕ) → ((t : ℕ) → t < n → a t + b t ≡ c t + d t) → sum_below n a + sum_below n b ≡ sum_below n c + sum_below n d
sums_alike zero a b c d each = refl
sums_alike (suc n) a b c d each =
    let rest = sums_alike n a b c d (λ t lt. each t (omega (arith, lt))) in
    let last = each n (omega arith) in
    omega (arith, rest, last)

pub sums_same : (n : ℕ) (f g : ℕ → ℕ) → ((t : ℕ) → t < n → f t ≡ g t) → sum_below n f ≡ sum_below n g
sums_same zero f g same = refl
sums_same (suc n) f g same =
    let rest = sums_same n f g (λ t lt. same t (omega (arith, lt))) in
    let last = same n (omega arith) in
    omega (arith, rest, last)

-- each part times a number
pub sums_times : (n : ℕ) (f : ℕ → ℕ) (k : ℕ) → sum_below n (λ t. f t * k) ≡ sum_below n f * k
sums_times zero f k = omega arith
sums_times (suc n) f k = ap (λ (x : ℕ). x + f n * k) (sums_times n f k) ∙ sym (add-mul (sum_below n f) (f n) k)

-- parts from n on that are 0
pub sums_stop : (n more : ℕ) (f : ℕ → ℕ) → ((t : ℕ) → n ≤ t → t < n + more → f t ≡ 0) → sum_below (n + more) f ≡ sum_below n f
sums_stop n zero f none = let same : n + 0 ≡ n = omega arith in ap (λ (k : ℕ). sum_below k f) same
sums_stop n (suc more) f none =
    let next : n + suc more ≡ suc (n + more) = omega arith in
    let last = none (n + more) (omega arith) (omega arith) in
    let rest = sums_stop n more f (λ t le lt. none t le (omega (arith, lt))) in
    ap (λ (k : ℕ). sum_below k f) next ∙ omega (arith, last, rest)
