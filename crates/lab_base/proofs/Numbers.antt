-- Tests of numbers.
use Rattle.std.proofs.Common.{◌≡◌, ℕ, suc, ◌+◌, ◌-◌, ◌≤◌, true, false, eqb, ltb, arith}
use Rattle.std.specs.Prelude.{nat_le}
use Rattle.std.proofs.lemmas.Bool.Decides.{nat_tests}
use Rattle.lab_base.specs.Counts.{Rose}

pub eqb_turned : (a b : ℕ) → eqb a b ≡ eqb b a
eqb_turned a b = grind (arith, nat_tests)

pub not_eqb_turned : (a b : ℕ) → eqb a b ≡ false → eqb b a ≡ false
not_eqb_turned a b h = grind (arith, nat_tests, h)

pub at_least_one : (n : ℕ) → eqb n 0 ≡ false → 1 ≤ n
at_least_one n h = grind (arith, nat_tests, h)

pub ltb_start : (n : ℕ) → ltb 0 (suc n) ≡ true
ltb_start n = grind (arith, nat_tests)

pub ltb_next : (n m : ℕ) → ltb (1 + n) (suc m) ≡ ltb n m
ltb_next n m = grind (arith, nat_tests)

pub zero_le : (n : ℕ) → nat_le 0 n ≡ true
zero_le n = grind (arith, nat_tests)

pub plus_zero : (n : ℕ) → n ≡ n + 0
plus_zero n = omega arith

pub add_back : (k n : ℕ) → n ≤ k → n + (k - n) ≡ k
add_back k n h = omega arith

-- a count that rose since a later moment rose since an earlier one
pub Rose_since : (a b c : ℕ) → a ≤ b → Rose b c → Rose a c
Rose_since a b c le rose = omega (arith, le, rose)
