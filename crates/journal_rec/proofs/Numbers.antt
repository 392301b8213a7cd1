-- Numbers in a few bytes, the least first.
use Rattle.std.proofs.Common.{◌≡◌, ℕ, zero, suc, ◌+◌, ◌*◌, ◌/◌, ◌%◌, ◌^◌, ◌<◌, List, [], ◌∷◌, length, get_or, refl, ap, ◌∙◌, subst, arith, pow-suc}
use Rattle.journal_rec.specs.Payloads.{le, number}

-- each is a byte
abbrev pub IsBytes : List ℕ → Type 0
IsBytes bytes = (i : ℕ) → get_or bytes i 0 < 256

below_part : (n p : ℕ) → n < 256 * p → n / 256 < p
below_part n p h = omega arith

whole_part : (n : ℕ) → (n % 256) + 256 * (n / 256) ≡ n
whole_part n = omega arith

pow_suc : (k : ℕ) → 256 ^ suc k ≡ 256 * 256 ^ k
pow_suc k = omega (arith, pow-suc 256 k)

-- the number of a number's bytes
pub number_le : (k n : ℕ) → n < 256 ^ k → number (le k n) ≡ n
number_le zero n h = omega arith
number_le (suc k) n h =
    let less : n / 256 < 256 ^ k = below_part n (256 ^ k) (subst (λ m. n < m) (pow_suc k) h) in
    ap (λ m. (n % 256) + 256 * m) (number_le k (n / 256) less) ∙ whole_part n

pub length_le : (k n : ℕ) → length (le k n) ≡ k
length_le zero n = refl
length_le (suc k) n = ap suc (length_le k (n / 256))

low : (x m : ℕ) → x < 256 → (x + 256 * m) % 256 ≡ x
low x m h = omega arith

high : (x m : ℕ) → x < 256 → (x + 256 * m) / 256 ≡ m
high x m h = omega arith

-- the bytes of the number of bytes
pub le_number : (bytes : List ℕ) → IsBytes bytes → le (length bytes) (number bytes) ≡ bytes
le_number [] h = refl
le_number (x ∷ xs) h =
    let rest : le (length xs) ((x + 256 * number xs) / 256) ≡ xs = ap (le (length xs)) (high x (number xs) (h 0)) ∙ le_number xs (λ i. h (suc i)) in
    (λ i. low x (number xs) (h 0) i ∷ rest i)

-- bytes are not too large a number
pub number_below : (bytes : List ℕ) → IsBytes bytes → number bytes < 256 ^ length bytes
number_below [] h = omega arith
number_below (x ∷ xs) h =
    let more = number_below xs (λ i. h (suc i)) in
    let here = h 0 in
    omega (arith, pow_suc (length xs), more, here)
