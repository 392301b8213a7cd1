-- Remainders by a multiplication.
use Rattle.std.proofs.Common.{◌≡◌, ◌∙◌, ◌<◌, ◌≤◌, ◌+◌, ◌-◌, ◌*◌, ◌/◌, ◌%◌, ◌^◌, ◌⊎◌, inl, inr, ℕ, ap, sym, arith}
use Rattle.std.proofs.Math.Nat.{lt_of_mul-lt-mul_right, mul-le-mul_right}
use Rattle.std.proofs.lemmas.Bool.{cases_lt}
use Rattle.std.proofs.lemmas.Nat.{mul-lt, div-mul-add, mod-mul-add, div-add-mod'}
use Rattle.node_maps.specs.Rooms.{IsInverse}

-- so many t-ths of n as the low part of a product has are r, where i is one n-th of t and little more
low_part : (t n i e q r : ℕ) → i * n ≡ t + e → r < n → e * (q * n + r) < t → (i * (q * n + r)) % t * n / t ≡ r
low_part t n i e q r is less few =
    let low : ℕ = q * e + i * r in
    let rest : ℕ = e * (q * n + r) in
    let product : i * (q * n + r) ≡ q * t + low = omega (arith, ap (λ (k : ℕ). q * k) is) in
    let scaled : low * n ≡ r * t + rest = omega (arith, ap (λ (k : ℕ). r * k) is) in
    let most : (r + 1) * t ≤ n * t = mul-le-mul_right {m = r + 1} {n = n} t (omega arith) in
    let below : low < t = lt_of_mul-lt-mul_right n {m = low} {n = t} (omega arith) in
    ap (λ (k : ℕ). k % t * n / t) product
    ∙ ap (λ (k : ℕ). k * n / t) (mod-mul-add q t low below)
    ∙ ap (λ (k : ℕ). k / t) scaled
    ∙ div-mul-add r t rest few

of_one : (x : ℕ) → (0 * x) % 2 ^ 64 * 1 / 2 ^ 64 ≡ x % 1
of_one x = omega arith

-- the remainder of a word by a number that has an inverse
pub by_inverse : (n i x : ℕ) → 0 < n → n ≤ 2 ^ 32 → x < 2 ^ 32 → IsInverse n i → (i * x) % 2 ^ 64 * n / 2 ^ 64 ≡ x % n
by_inverse n i x some few word inverse = by (cases_lt 1 n)
  where
    by : (1 < n) ⊎ (n ≤ 1) → (i * x) % 2 ^ 64 * n / 2 ^ 64 ≡ x % n
    by (inl more) =
        let least = inverse.least more in
        let near = inverse.near more in
        let e : ℕ = i * n - 2 ^ 64 in
        let whole : x / n * n + x % n ≡ x = div-add-mod' x n in
        let small : e * x < 2 ^ 32 * 2 ^ 32 = mul-lt e x (2 ^ 32) (2 ^ 32) (omega arith) word in
        let less : x % n < n = omega arith in
        ap (λ (k : ℕ). (i * k) % 2 ^ 64 * n / 2 ^ 64) (sym whole)
        ∙ low_part (2 ^ 64) n i e (x / n) (x % n) (omega arith) less (rw whole (omega arith))
    by (inr one) =
        let is_one : n ≡ 1 = omega arith in
        ap (λ (k : ℕ). (i * x) % 2 ^ 64 * k / 2 ^ 64) is_one
        ∙ ap (λ (k : ℕ). (k * x) % 2 ^ 64 * 1 / 2 ^ 64) (inverse.one is_one)
        ∙ of_one x
        ∙ ap (λ (k : ℕ). x % k) (sym is_one)
