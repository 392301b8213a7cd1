-- The digits that lead, and what stands after them.
use Rattle.std.proofs.Common.{◌≡◌, ℕ, suc, ◌+◌, ◌≤◌, Bool, true, false, not, ltb, List, [], ◌∷◌, ◌++◌, length, refl, arith, take-append-drop}
use Rattle.std.specs.Prelude.{unwrap_or}
use Rattle.std.specs.Char.{is_ascii_digit}
use Rattle.std.specs.List.{list_all, position, position_or_len, prefix_len}
use Rattle.std.proofs.lemmas.Bool.{and_parts, and_from}
use Rattle.std.proofs.lemmas.Bool.{ltb-false}
use Rattle.std.proofs.lemmas.List.Sums.{prefix_len-le-length}
use Rattle.ns_words.specs.Values.{is_no_digit, leading, behind}

pub within_length : {X : Type 0} (p : X → Bool) (xs : List X) → position_or_len p xs ≤ length xs
within_length p xs = prefix_len-le-length (λ x. not (p x)) xs

-- the first place, or the length where there is none
pub place_or_length : {X : Type 0} (p : X → Bool) (xs : List X) → unwrap_or (position p xs) (length xs) ≡ position_or_len p xs
place_or_length p xs = by (ltb (position_or_len p xs) (length xs)) refl
  where
    by : (b : Bool) → ltb (position_or_len p xs) (length xs) ≡ b → unwrap_or (position p xs) (length xs) ≡ position_or_len p xs
    by true is = rw is refl
    by false is = rw is (omega (arith, ltb-false _ _ is, within_length p xs))

-- a word is the digits that lead and what stands after them
pub parts_join : (bytes : List ℕ) → leading bytes ++ behind bytes ≡ bytes
parts_join bytes = take-append-drop (position_or_len is_no_digit bytes) bytes

pub leading_digits : (bytes : List ℕ) → list_all is_ascii_digit (leading bytes) ≡ true
leading_digits [] = refl
leading_digits (b ∷ bytes) = by (is_ascii_digit b) refl (leading_digits bytes)
  where
    by : (t : Bool) → is_ascii_digit b ≡ t → list_all is_ascii_digit (leading bytes) ≡ true → list_all is_ascii_digit (leading (b ∷ bytes)) ≡ true
    by true is rest =
        let one : 1 + prefix_len (λ x. not (is_no_digit x)) bytes ≡ suc (prefix_len (λ x. not (is_no_digit x)) bytes) = omega arith in
        rw (is, one) (and_from _ _ is rest)
    by false is rest = rw is refl

-- the first byte, if there is one, is no digit
abbrev pub starts_other : List ℕ → Bool
starts_other [] = true
starts_other (b ∷ bytes) = is_no_digit b

-- digits before something else are the digits that lead
pub digits_lead : (digits rest : List ℕ) → list_all is_ascii_digit digits ≡ true → starts_other rest ≡ true → position_or_len is_no_digit (digits ++ rest) ≡ length digits
digits_lead [] [] all other = refl
digits_lead [] (b ∷ rest) all other = rw other refl
digits_lead (d ∷ digits) rest all other =
    let parts = and_parts (is_ascii_digit d) (list_all is_ascii_digit digits) all in
    let more : position_or_len is_no_digit (digits ++ rest) ≡ length digits = digits_lead digits rest parts.1 other in
    let one : 1 + length digits ≡ suc (length digits) = omega arith in
    rw (parts.0, more) one
