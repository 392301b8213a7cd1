-- The bits of a word, summed.
use Rattle.std.proofs.Common.{◌≡◌, ◌<◌, ◌≤◌, ◌+◌, ◌-◌, ◌*◌, ◌/◌, ◌%◌, ◌^◌, ◌∙◌, inl, inr, ℕ, zero, suc, count_ones, ap, sym, subst, arith}
use Rattle.std.proofs.Math.Nat.{div-add-mod', mod-lt, div-lt_iff_lt-mul, mod-eq_of_lt, two-pow-succ}
use Rattle.std.proofs.lemmas.Bool.{cases_eq}
use Rattle.std.proofs.lemmas.Nat.{ones_cat, ones_le_self, zero_from_ones, pow_pos}
use Rattle.std.proofs.lemmas.Nat.Bits.{bit_at_cat_low}
use Rattle.std.specs.Int.{bit_at}
use Rattle.trunk_sums.specs.Totals.{sum_below}
use Rattle.trunk_sums.proofs.SumLaws.{sums_same, sums_stop, sums_times}

one_bit : (a : ℕ) → a < 2 → count_ones a ≡ a
one_bit zero lt = omega (arith, ones_le_self 0)
one_bit (suc zero) lt = elim (cases_eq (count_ones 1) 0) [
  | inl none ↦ absurd (let is = zero_from_ones 1 none in omega (arith, is))
  | inr some ↦ omega (arith, some, ones_le_self 1)
]
one_bit (suc (suc a)) lt = absurd (omega (arith, lt))

-- a word of n bits has as many ones as its bits add up to
ones_are : (n word : ℕ) → word < 2 ^ n → sum_below n (bit_at word) ≡ count_ones word
ones_are zero word fits = omega (arith, fits, ones_le_self word)
ones_are (suc n) word fits =
    let top = word / 2 ^ n in
    let rest = word % 2 ^ n in
    let split : top * 2 ^ n + rest ≡ word = div-add-mod' word (2 ^ n) in
    let low : rest < 2 ^ n = mod-lt word (pow_pos n) in
    let twice = two-pow-succ n in
    let one : top < 2 = (div-lt_iff_lt-mul (pow_pos n)).1 (omega (arith, fits, twice)) in
    let bit : bit_at word n ≡ top = mod-eq_of_lt one in
    let parts : count_ones word ≡ count_ones top + count_ones rest = ap (λ (x : ℕ). count_ones x) (sym split) ∙ ones_cat n top rest low in
    let its = one_bit top one in
    let below = sums_same n (bit_at word) (bit_at rest) (λ t lt. ap (λ (x : ℕ). bit_at x t) (sym split) ∙ bit_at_cat_low top n rest t lt) in
    let ones = ones_are n rest low in
    omega (arith, bit, parts, its, below, ones)

-- the kbps of the ends that a word of m bits has, where none is set from n on
pub kbps_are : (n m word kbps : ℕ) → n ≤ m → word < 2 ^ m → ((t : ℕ) → n ≤ t → t < m → bit_at word t ≡ 0) → count_ones word * kbps ≡ sum_below n (λ t. bit_at word t * kbps)
kbps_are n m word kbps le fits none =
    let all : n + (m - n) ≡ m = omega (arith, le) in
    let ones = ones_are (n + (m - n)) word (subst (λ (k : ℕ). word < 2 ^ k) (sym all) fits) in
    let stop = sums_stop n (m - n) (bit_at word) (λ t from lt. none t from (omega (arith, lt, all))) in
    ap (λ (k : ℕ). k * kbps) (sym ones ∙ stop) ∙ sym (sums_times n (bit_at word) kbps)
