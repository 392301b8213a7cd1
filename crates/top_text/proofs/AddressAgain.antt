-- An address that is printed is read again.
use Rattle.std.proofs.Common.{◌≡◌, ℕ, ◌/◌, ◌%◌, ◌<◌, ◌≤◌, true, not, eqb, List, ◌∷◌, ◌++◌, Ok, refl, ◌∙◌, arith}
use Rattle.std.specs.Prelude.{decimal}
use Rattle.std.specs.List.{list_all}
use Rattle.std.proofs.lemmas.Bool.{and_from}
use Rattle.std.proofs.lemmas.List.Folds.{list_all-append}
use Rattle.line_text.specs.Addresses.{address_of}
use Rattle.line_text.proofs.AddressLaws as laws
use Rattle.line_text.proofs.PartsAgain.{no_byte_number}
use Rattle.top_text.specs.Canonical.{address_text}

pub address_again : (a : ℕ) → a < 4294967296 → 1 ≤ a % 256 → a % 256 ≤ 254 → address_of (address_text a) ≡ Ok a
address_again a small low high = laws.address_again (address_text a) a (record {
  a = a / 16777216;
  b = a / 65536 % 256;
  c = a / 256 % 256;
  d = a % 256;
  joined = refl;
  a_fits = omega arith;
  b_fits = omega arith;
  c_fits = omega arith;
  least = low;
  most = high;
  value = omega arith;
})

-- it has no `=`
joined : (xs ys : List ℕ) → list_all (λ b. not (eqb b 61)) xs ≡ true → list_all (λ b. not (eqb b 61)) ys ≡ true → list_all (λ b. not (eqb b 61)) (xs ++ ys) ≡ true
joined xs ys x y = list_all-append (λ b. not (eqb b 61)) xs ys ∙ and_from _ _ x y

pub no_equals : (a : ℕ) → a < 4294967296 → list_all (λ b. not (eqb b 61)) (address_text a) ≡ true
no_equals a small =
    joined (decimal (a / 16777216) ++ 46 ∷ decimal (a / 65536 % 256) ++ 46 ∷ decimal (a / 256 % 256)) (46 ∷ decimal (a % 256))
    (joined (decimal (a / 16777216) ++ 46 ∷ decimal (a / 65536 % 256)) (46 ∷ decimal (a / 256 % 256))
    (joined (decimal (a / 16777216)) (46 ∷ decimal (a / 65536 % 256)) (part (a / 16777216) (omega arith)) (part (a / 65536 % 256) (omega arith)))
    (part (a / 256 % 256) (omega arith)))
    (part (a % 256) (omega arith))
  where
    part : (n : ℕ) → n < 4294967296 → list_all (λ b. not (eqb b 61)) (decimal n) ≡ true
    part n fits = no_byte_number 61 refl n (omega arith)
