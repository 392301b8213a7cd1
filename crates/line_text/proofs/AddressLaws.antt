-- A text has an address exactly where it is four numbers joined by dots.
use Rattle.std.proofs.Common.{◌≡◌, ℕ, zero, suc, ◌+◌, ◌*◌, ◌^◌, ◌<◌, ◌≤◌, Bool, true, false, cond, eqb, ltb, ◌&&◌, List, [], ◌∷◌, ◌++◌, length, get_or, Option, Some, None, Result, Ok, Err, refl, sym, ap, ◌∙◌, arith, append_assoc}
use Rattle.std.specs.Prelude.{decimal, nat_le}
use Rattle.std.specs.Char.{is_ascii_digit}
use Rattle.std.specs.List.{list_all, position_or_len, before_first, after_first}
use Rattle.std.specs.Str.Parse.{digits_value}
use Rattle.std.proofs.lemmas.Bool.{and_parts, eqb-true, leb-true, ltb-true}
use Rattle.std.proofs.lemmas.Bool.Decides.{nat_tests}
use Rattle.std.proofs.lemmas.List.Sums.{split_at_first, passes_at_first}
use Rattle.std.proofs.lemmas.Fmt.{digits_decimal, first_decimal, decimal_digit, decimal-digits_value}
use Rattle.lab_base.specs.Numbers.{is_digits}
use Rattle.lab_base.specs.Texts.{parted_at}
use Rattle.lab_base.specs.Parts.{number_from, at_least}
use Rattle.lab_base.specs.declared.fault.Kind.{Kind}
use Rattle.lab_base.specs.declared.fault.Kind.TheVariants as kinds
use Rattle.lab_base.proofs.Digits.{own}
use Rattle.line_text.specs.Reading.{and_then}
use Rattle.line_text.specs.Addresses.{IsAddress, leads_with_zero, octet, grown, dotted, fourth, third, second, address_of}
use Rattle.line_text.proofs.PartsAgain.{others, parted_again, number_back}

-- PARTS

-- where a byte parts a word the word is its parts round that byte
pub parted_is : (at : ℕ) (bytes : List ℕ) (parts : List ℕ × List ℕ) → parted_at at bytes ≡ Some parts → bytes ≡ parts.0 ++ at ∷ parts.1
parted_is at bytes parts h = by (ltb (position_or_len here bytes) (length bytes)) refl
  where
    here : ℕ → Bool
    here byte = eqb byte at

    by : (b : Bool) → ltb (position_or_len here bytes) (length bytes) ≡ b → bytes ≡ parts.0 ++ at ∷ parts.1
    by true is =
        let lt : position_or_len here bytes < length bytes = ltb-true _ _ is in
        let some : Some (before_first here bytes, after_first here bytes) ≡ Some parts = rw is at h in
        let same : (before_first here bytes, after_first here bytes) ≡ parts = cc in
        let byte : get_or bytes (position_or_len here bytes) 0 ≡ at = eqb-true _ _ (passes_at_first here bytes 0 lt) in
        split_at_first here bytes 0 lt ∙ (λ i. (same i).0 ++ byte i ∷ (same i).1)
    by false is = absurd (let none : None ≡ Some parts = rw is at h in cc)

-- NUMBERS

one_zero : (bytes : List ℕ) → leads_with_zero bytes ≡ false → 0 < length bytes → get_or bytes 0 0 ≡ 48 → length bytes ≡ 1
one_zero [] none some first = absurd (omega arith)
one_zero (a ∷ []) none some first = refl
one_zero (a ∷ b ∷ bytes) none some first = absurd (let zero_first : eqb a 48 ≡ true = (let e : a ≡ 48 = first in grind (arith, nat_tests)) in cc)

pub record IsOctet (least most : ℕ) (bytes : List ℕ) (n : ℕ) : Type 0 where
  pub text : bytes ≡ decimal n
  pub low : least ≤ n
  pub high : n ≤ most

pub octet_is : (least most : ℕ) (bytes : List ℕ) (n : ℕ) → most ≤ 255 → octet least most bytes ≡ Ok n → IsOctet least most bytes n
octet_is least most bytes n small h = by_zero (leads_with_zero bytes) refl
  where
    value : ℕ
    value = digits_value 10 bytes

    by_least : (c : Bool) → leads_with_zero bytes ≡ false → (is_digits bytes && nat_le value most) ≡ true → nat_le least value ≡ c → at_least least (Some value) ≡ Ok n
        → IsOctet least most bytes n
    by_least true zeros number is read =
        let parts = and_parts (is_digits bytes) (nat_le value most) number in
        let digits = and_parts (nat_le 1 (length bytes)) (nat_le (length bytes) 20 && list_all is_ascii_digit bytes) parts.0 in
        let all = (and_parts (nat_le (length bytes) 20) (list_all is_ascii_digit bytes) digits.1).1 in
        let some : 0 < length bytes = omega (arith, leb-true _ _ digits.0) in
        let high : value ≤ most = leb-true _ _ parts.1 in
        let found : Ok value ≡ Ok n = rw is at read in
        let same : value ≡ n = cc in
        record {
          text = sym (decimal-digits_value own bytes all some (one_zero bytes zeros some) (omega arith)) ∙ ap decimal same;
          low = omega (arith, leb-true _ _ is);
          high = omega arith;
        }
    by_least false zeros number is read = absurd (let none : Err kinds.Number ≡ Ok n = rw is at read in cc)

    by_number : (b : Bool) → leads_with_zero bytes ≡ false → (is_digits bytes && nat_le value most) ≡ b → number_from least most bytes ≡ Ok n → IsOctet least most bytes n
    by_number true zeros is read = let found : at_least least (Some value) ≡ Ok n = rw is at read in by_least (nat_le least value) zeros is refl found
    by_number false zeros is read = absurd (let none : Err kinds.Number ≡ Ok n = rw is at read in cc)

    by_zero : (z : Bool) → leads_with_zero bytes ≡ z → IsOctet least most bytes n
    by_zero true is = absurd (let none : Err kinds.Number ≡ Ok n = rw is at h in cc)
    by_zero false is = let read : number_from least most bytes ≡ Ok n = rw is at h in by_number (is_digits bytes && nat_le value most) is refl read

-- a number that is printed has no leading zero
no_zero : (n : ℕ) → n < 2 ^ 64 → leads_with_zero (decimal n) ≡ false
no_zero zero fits = ap leads_with_zero (decimal_digit 0 (omega arith))
no_zero (suc n) fits = by (decimal (suc n)) (first_decimal (suc n) (omega arith) fits)
  where
    by : (ds : List ℕ) → 48 < get_or ds 0 0 → leads_with_zero ds ≡ false
    by [] h = refl
    by (a ∷ []) h = refl
    by (a ∷ b ∷ ds) h = grind (arith, nat_tests, h)

octet_again : (least most n : ℕ) → least ≤ n → n ≤ most → most ≤ 255 → octet least most (decimal n) ≡ Ok n
octet_again least most n low high small =
    ap (λ (b : Bool). cond b (Err kinds.Number) (number_from least most (decimal n))) (no_zero n (omega arith)) ∙ number_back least most n low high (omega arith)

-- A NUMBER BEFORE A DOT

pub record IsDotted (next : ℕ → List ℕ → Result ℕ Kind) (value : ℕ) (bytes : List ℕ) (address : ℕ) : Type 0 where
  pub n : ℕ
  pub rest : List ℕ
  pub text : bytes ≡ decimal n ++ 46 ∷ rest
  pub fits : n ≤ 255
  pub behind : next (value * 256 + n) rest ≡ Ok address

dotted_is : (next : ℕ → List ℕ → Result ℕ Kind) (value : ℕ) (bytes : List ℕ) (address : ℕ) → dotted next value (parted_at 46 bytes) ≡ Ok address → IsDotted next value bytes address
dotted_is next value bytes address h = by (parted_at 46 bytes) refl
  where
    by_octet : (parts : List ℕ × List ℕ) (o : Result ℕ Kind) → parted_at 46 bytes ≡ Some parts → octet 0 255 parts.0 ≡ o → and_then (grown value o) (λ n. next n parts.1) ≡ Ok address
        → IsDotted next value bytes address
    by_octet parts (Err kind) at is read = absurd cc
    by_octet parts (Ok n) at is read =
        let number = octet_is 0 255 parts.0 n (omega arith) is in
        record { n = n; rest = parts.1; text = parted_is 46 bytes parts at ∙ ap (λ (l : List ℕ). l ++ 46 ∷ parts.1) number.text; fits = number.high; behind = read }

    by : (o : Option (List ℕ × List ℕ)) → parted_at 46 bytes ≡ o → IsDotted next value bytes address
    by None is = absurd (let none : Err kinds.Number ≡ Ok address = rw is at h in cc)
    by (Some parts) is =
        let read : and_then (grown value (octet 0 255 parts.0)) (λ n. next n parts.1) ≡ Ok address = rw is at h in
        by_octet parts (octet 0 255 parts.0) is refl read

dot_again : (next : ℕ → List ℕ → Result ℕ Kind) (value n : ℕ) (rest : List ℕ) → n ≤ 255 → dotted next value (parted_at 46 (decimal n ++ 46 ∷ rest)) ≡ next (value * 256 + n) rest
dot_again next value n rest few =
    ap (dotted next value) (parted_again 46 (decimal n) rest (others is_ascii_digit 46 refl (decimal n) (digits_decimal own n (omega arith))))
    ∙ ap (λ (r : Result ℕ Kind). and_then (grown value r) (λ k. next k rest)) (octet_again 0 255 n (omega arith) few (omega arith))

-- AN ADDRESS

grown_is : (value : ℕ) (o : Result ℕ Kind) (address : ℕ) → grown value o ≡ Ok address → (n : ℕ) × (o ≡ Ok n) × (value * 256 + n ≡ address)
grown_is value (Err kind) address h = absurd cc
grown_is value (Ok n) address h = (n, refl, cc)

to_right : (a b c d : List ℕ) → a ++ 46 ∷ b ++ 46 ∷ c ++ 46 ∷ d ≡ a ++ 46 ∷ (b ++ 46 ∷ (c ++ 46 ∷ d))
to_right a b c d = simp append_assoc

-- four numbers, each before what stands after its dot
four : (word one two three a b c d : List ℕ) → word ≡ a ++ 46 ∷ one → one ≡ b ++ 46 ∷ two → two ≡ c ++ 46 ∷ three → three ≡ d → word ≡ a ++ 46 ∷ b ++ 46 ∷ c ++ 46 ∷ d
four word one two three a b c d first second third last =
    first ∙ (λ i. a ++ 46 ∷ second i) ∙ (λ i. a ++ 46 ∷ (b ++ 46 ∷ third i)) ∙ (λ i. a ++ 46 ∷ (b ++ 46 ∷ (c ++ 46 ∷ last i))) ∙ sym (to_right a b c d)

pub address_is : (word : List ℕ) (address : ℕ) → address_of word ≡ Ok address → IsAddress word address
address_is word address h =
    let a = dotted_is second 0 word address h in
    let b = dotted_is third (0 * 256 + a.n) a.rest address a.behind in
    let c = dotted_is fourth ((0 * 256 + a.n) * 256 + b.n) b.rest address b.behind in
    let d = grown_is (((0 * 256 + a.n) * 256 + b.n) * 256 + c.n) (octet 1 254 c.rest) address c.behind in
    let last = octet_is 1 254 c.rest d.0 (omega arith) d.1 in
    record {
      a = a.n;
      b = b.n;
      c = c.n;
      d = d.0;
      joined = four word a.rest b.rest c.rest (decimal a.n) (decimal b.n) (decimal c.n) (decimal d.0) a.text b.text c.text last.text;
      a_fits = a.fits;
      b_fits = b.fits;
      c_fits = c.fits;
      least = last.low;
      most = last.high;
      value = omega (arith, d.2);
    }

pub address_again : (word : List ℕ) (address : ℕ) → IsAddress word address → address_of word ≡ Ok address
address_again word address w =
    ap address_of (w.joined ∙ to_right (decimal w.a) (decimal w.b) (decimal w.c) (decimal w.d))
    ∙ dot_again second 0 w.a (decimal w.b ++ 46 ∷ (decimal w.c ++ 46 ∷ decimal w.d)) w.a_fits
    ∙ dot_again third (0 * 256 + w.a) w.b (decimal w.c ++ 46 ∷ decimal w.d) w.b_fits
    ∙ dot_again fourth ((0 * 256 + w.a) * 256 + w.b) w.c (decimal w.d) w.c_fits
    ∙ ap (grown (((0 * 256 + w.a) * 256 + w.b) * 256 + w.c)) (octet_again 1 254 w.d w.least w.most (omega arith))
    ∙ ap (λ (n : ℕ). Ok n) (omega (arith, w.value))
