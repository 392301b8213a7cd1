-- A word has a value exactly where the definition says so.
use Rattle.std.proofs.Common.{◌≡◌, ℕ, suc, ◌*◌, ◌/◌, ◌%◌, ◌^◌, ◌≤◌, Bool, true, false, not, eqb, ◌&&◌, List, [], ◌∷◌, ◌++◌, length, drop, Option, Some, None, refl, sym, ap, subst, ◌∙◌, arith, inl, inr, append_assoc, mul_assoc}
use Rattle.std.specs.Prelude.{nat_le}
use Rattle.std.specs.Char.{is_ascii_digit}
use Rattle.std.specs.List.{list_all, position_or_len}
use Rattle.std.specs.Str.Parse.{digits_value}
use Rattle.std.proofs.lemmas.Bool.{and_parts, and_from, eq-eqb, eqb-true, leb-true, le-leb}
use Rattle.std.proofs.lemmas.Bool.Decides.{nat_tests}
use Rattle.std.proofs.lemmas.List.{append-nil}
use Rattle.std.proofs.lemmas.List.Folds.{list_all-append, length-prefix_len}
use Rattle.std.proofs.lemmas.Nat.{mul-le}
use Rattle.std.proofs.Math.Nat.{div-add-mod, mul-div_cancel, mul-mod_left}
use Rattle.std.proofs.Math.Seq.{take-append_seam, drop-append_seam}
use Rattle.lab_base.specs.Lists.{Has}
use Rattle.lab_base.proofs.Numbers.{at_least_one}
use Rattle.virt_topo.specs.Soundness.{is_between}
use Rattle.ns_words.specs.Quantities.{Units, pointed, IsQuantity}
use Rattle.ns_words.specs.Values.{scale_of, Numeral, is_no_digit, leading, behind, is_pointed, numeral_from, numeral_of, quotient_of, parts_of, measured, quantity_of}
use Rattle.ns_words.proofs.Leading.{parts_join, leading_digits, starts_other, digits_lead}
use Rattle.ns_words.proofs.Lookups.{differ, scale_found, found_scale}
use Rattle.ns_words.proofs.Amounts.{few_places}

-- THE NUMERAL OF A WORD

pub record IsParsed (word : List ℕ) (n : Numeral) : Type 0 where
  pub joined : word ≡ n.whole ++ pointed n.fraction ++ n.unit
  pub whole : list_all is_ascii_digit n.whole ≡ true
  pub fraction : list_all is_ascii_digit n.fraction ≡ true
  pub few : length n.fraction ≤ 9

pointed_some : (fraction : List ℕ) → 1 ≤ length fraction → pointed fraction ≡ 46 ∷ fraction
pointed_some [] some = absurd (omega arith)
pointed_some (d ∷ fraction) some = refl

record HasFraction (rest : List ℕ) : Type 0 where
  some : 1 ≤ length (leading (drop 1 rest))
  few : length (leading (drop 1 rest)) ≤ 9
  joined : rest ≡ 46 ∷ (leading (drop 1 rest) ++ behind (drop 1 rest))

has_fraction : (rest : List ℕ) → is_pointed rest ≡ true → HasFraction rest
has_fraction [] h = absurd cc
has_fraction (b ∷ bytes) h =
    let parts = and_parts (eqb b 46) (is_between 1 9 (position_or_len is_no_digit bytes)) h in
    let limits = and_parts (nat_le 1 (position_or_len is_no_digit bytes)) (nat_le (position_or_len is_no_digit bytes) 9) parts.1 in
    let length_is : length (leading bytes) ≡ position_or_len is_no_digit bytes = length-prefix_len (λ x. not (is_no_digit x)) bytes in
    record {
      some = omega (arith, leb-true _ _ limits.0);
      few = omega (arith, leb-true _ _ limits.1);
      joined = λ i. eqb-true b 46 parts.0 i ∷ sym (parts_join bytes) i;
    }

parsed_from : (whole rest : List ℕ) → list_all is_ascii_digit whole ≡ true → IsParsed (whole ++ rest) (numeral_from whole rest)
parsed_from whole rest digits = by (is_pointed rest) refl
  where
    by : (b : Bool) → is_pointed rest ≡ b → IsParsed (whole ++ rest) (numeral_from whole rest)
    by true is =
        let h : HasFraction rest = has_fraction rest is in
        let fraction = leading (drop 1 rest) in
        let unit = behind (drop 1 rest) in
        let front : pointed fraction ≡ 46 ∷ fraction = pointed_some fraction h.some in
        let text : whole ++ rest ≡ whole ++ (pointed fraction ++ unit) = ap (λ (l : List ℕ). whole ++ l) (h.joined ∙ ap (λ (l : List ℕ). l ++ unit) (sym front)) in
        let n : IsParsed (whole ++ rest) (record { whole = whole; fraction = fraction; unit = unit }) = record {
          joined = text ∙ sym (append_assoc whole (pointed fraction) unit);
          whole = digits;
          fraction = leading_digits (drop 1 rest);
          few = h.few;
        } in
        rw is n
    by false is =
        let n : IsParsed (whole ++ rest) (record { whole = whole; fraction = []; unit = rest }) = record {
          joined = ap (λ (l : List ℕ). l ++ rest) (sym (append-nil whole));
          whole = digits;
          fraction = refl;
          few = omega arith;
        } in
        rw is n

pub parsed : (word : List ℕ) → IsParsed word (numeral_of word)
parsed word = subst (λ (w : List ℕ). IsParsed w (numeral_of word)) (parts_join word) (parsed_from (leading word) (behind word) (leading_digits word))

-- AND BACK

-- a unit begins neither with a digit nor with a point
abbrev pub starts_plain : List ℕ → Bool
starts_plain [] = true
starts_plain (b ∷ bytes) = is_no_digit b && not (eqb b 46)

plain_other : (unit : List ℕ) → starts_plain unit ≡ true → starts_other unit ≡ true
plain_other [] plain = refl
plain_other (b ∷ unit) plain = (and_parts (is_no_digit b) (not (eqb b 46)) plain).0

not_pointed : (unit : List ℕ) → starts_plain unit ≡ true → is_pointed unit ≡ false
not_pointed [] plain = refl
not_pointed (b ∷ unit) plain = by (eqb b 46) (and_parts (is_no_digit b) (not (eqb b 46)) plain).1
  where
    by : (t : Bool) → not t ≡ true → (t && is_between 1 9 (position_or_len is_no_digit unit)) ≡ false
    by true h = absurd cc
    by false h = refl

lead_is : (digits rest : List ℕ) → list_all is_ascii_digit digits ≡ true → starts_other rest ≡ true → leading (digits ++ rest) ≡ digits
lead_is digits rest all other = rw (digits_lead digits rest all other) (take-append_seam digits rest)

behind_is : (digits rest : List ℕ) → list_all is_ascii_digit digits ≡ true → starts_other rest ≡ true → behind (digits ++ rest) ≡ rest
behind_is digits rest all other = rw (digits_lead digits rest all other) (drop-append_seam digits rest)

from_again : (whole fraction unit : List ℕ) → list_all is_ascii_digit fraction ≡ true → length fraction ≤ 9 → starts_plain unit ≡ true
    → numeral_from whole (pointed fraction ++ unit) ≡ record { whole = whole; fraction = fraction; unit = unit }
from_again whole [] unit digits few plain = rw (not_pointed unit plain) refl
from_again whole (d ∷ fraction) unit digits few plain =
    let count : position_or_len is_no_digit (d ∷ fraction ++ unit) ≡ suc (length fraction) = digits_lead (d ∷ fraction) unit digits (plain_other unit plain) in
    let limits : is_between 1 9 (suc (length fraction)) ≡ true = and_from _ _ (le-leb 1 (suc (length fraction)) (omega arith)) (le-leb (suc (length fraction)) 9 few) in
    let is : is_pointed (46 ∷ (d ∷ fraction ++ unit)) ≡ true = ap (λ (k : ℕ). is_between 1 9 k) count ∙ limits in
    rw is (λ i. record { whole = whole; fraction = lead_is (d ∷ fraction) unit digits (plain_other unit plain) i; unit = behind_is (d ∷ fraction) unit digits (plain_other unit plain) i })

pointed_other : (fraction unit : List ℕ) → starts_plain unit ≡ true → starts_other (pointed fraction ++ unit) ≡ true
pointed_other [] unit plain = plain_other unit plain
pointed_other (d ∷ fraction) unit plain = refl

pub numeral_again : (whole fraction unit : List ℕ) → list_all is_ascii_digit (whole ++ fraction) ≡ true → length fraction ≤ 9 → starts_plain unit ≡ true
    → numeral_of (whole ++ pointed fraction ++ unit) ≡ record { whole = whole; fraction = fraction; unit = unit }
numeral_again whole fraction unit digits few plain =
    let parts = and_parts (list_all is_ascii_digit whole) (list_all is_ascii_digit fraction) (sym (list_all-append is_ascii_digit whole fraction) ∙ digits) in
    let rest = pointed fraction ++ unit in
    let other : starts_other rest ≡ true = pointed_other fraction unit plain in
    ap numeral_of (append_assoc whole (pointed fraction) unit)
    ∙ (λ i. numeral_from (lead_is whole rest parts.0 other i) (behind_is whole rest parts.0 other i))
    ∙ from_again whole fraction unit parts.1 few plain

-- QUOTIENTS

record IsQuotient (least most n d v : ℕ) : Type 0 where
  exact : n ≡ v * d
  least_is : least ≤ v
  most_is : v ≤ most

quotient_is : (least most n d v : ℕ) → quotient_of least most n d ≡ Some v → IsQuotient least most n d v
quotient_is least most n d v h = by (eqb (n % d) 0 && is_between least most (n / d)) refl
  where
    by : (b : Bool) → (eqb (n % d) 0 && is_between least most (n / d)) ≡ b → IsQuotient least most n d v
    by true is =
        let parts = and_parts (eqb (n % d) 0) (is_between least most (n / d)) is in
        let limits = and_parts (nat_le least (n / d)) (nat_le (n / d) most) parts.1 in
        let some : Some (n / d) ≡ Some v = rw is at h in
        let value : n / d ≡ v = cc in
        let rest : n % d ≡ 0 = eqb-true _ _ parts.0 in
        record {
          exact = subst (λ (q : ℕ). n ≡ q * d) value (omega (arith, div-add-mod n d));
          least_is = omega (arith, leb-true _ _ limits.0);
          most_is = omega (arith, leb-true _ _ limits.1);
        }
    by false is = absurd (let none : None ≡ Some v = rw is at h in cc)

is_quotient : (least most v d : ℕ) → 1 ≤ d → least ≤ v → v ≤ most → quotient_of least most (v * d) d ≡ Some v
is_quotient least most v d some low high =
    let rest : eqb (v * d % d) 0 ≡ true = eq-eqb _ _ (mul-mod_left v d) in
    let value : v * d / d ≡ v = mul-div_cancel v some in
    rw (value, rest, le-leb least v low, le-leb v most high) refl

-- THE VALUE OF A WORD

pub record IsWithin (units : Units) (part least most : ℕ) (word : List ℕ) (v : ℕ) : Type 0 where
  pub quantity : IsQuantity units part word v
  pub low : least ≤ v
  pub high : v ≤ most

pub quantity_is : (units : Units) (part least most : ℕ) (word : List ℕ) (v : ℕ) → quantity_of units part least most word ≡ Some v → IsWithin units part least most word v
quantity_is units part least most word v h = by_scale (scale_of units n.unit) refl
  where
    n : Numeral
    n = numeral_of word

    p : IsParsed word n
    p = parsed word

    by_length : (scale : ℕ) (b : Bool) → scale_of units n.unit ≡ Some scale → eqb (length n.whole) 0 ≡ b → parts_of part least most n scale ≡ Some v → IsWithin units part least most word v
    by_length scale true found is parts = absurd (let none : None ≡ Some v = rw is at parts in cc)
    by_length scale false found is parts =
        let quotient : quotient_of least most (digits_value 10 (n.whole ++ n.fraction) * scale) (part * 10 ^ length n.fraction) ≡ Some v = rw is at parts in
        let q = quotient_is least most (digits_value 10 (n.whole ++ n.fraction) * scale) (part * 10 ^ length n.fraction) v quotient in
        record {
          quantity = record {
            whole = n.whole;
            fraction = n.fraction;
            unit = n.unit;
            scale = scale;
            joined = p.joined;
            digits = list_all-append is_ascii_digit n.whole n.fraction ∙ and_from _ _ p.whole p.fraction;
            some = at_least_one (length n.whole) is;
            few = p.few;
            named = scale_found units n.unit scale found;
            exact = q.exact ∙ sym (mul_assoc v part (10 ^ length n.fraction));
          };
          low = q.least_is;
          high = q.most_is;
        }

    by_scale : (o : Option ℕ) → scale_of units n.unit ≡ o → IsWithin units part least most word v
    by_scale None is = absurd (let none : None ≡ Some v = rw is at h in cc)
    by_scale (Some scale) is = let parts : parts_of part least most n scale ≡ Some v = rw is at h in by_length scale (eqb (length n.whole) 0) is refl parts

plain_unit : (units : Units) (unit : List ℕ) (scale : ℕ) → list_all (λ (u : List ℕ × ℕ). starts_plain u.0) units ≡ true → Has units (unit, scale) → starts_plain unit ≡ true
plain_unit [] unit scale all has = absurd has
plain_unit (u ∷ units) unit scale all (inl e) =
    let parts = and_parts (starts_plain u.0) (list_all (λ (v : List ℕ × ℕ). starts_plain v.0) units) all in
    ap (λ (v : List ℕ × ℕ). starts_plain v.0) (sym e) ∙ parts.0
plain_unit (u ∷ units) unit scale all (inr h) =
    let parts = and_parts (starts_plain u.0) (list_all (λ (v : List ℕ × ℕ). starts_plain v.0) units) all in
    plain_unit units unit scale parts.1 h

-- units that differ, and begin neither with a digit nor with a point
pub record AreUnits (units : Units) : Type 0 where
  pub apart : differ units ≡ false
  pub plain : list_all (λ (u : List ℕ × ℕ). starts_plain u.0) units ≡ true

pub quantity_again : (units : Units) (part least most : ℕ) (word : List ℕ) (v : ℕ) → AreUnits units → 1 ≤ part → IsWithin units part least most word v
    → quantity_of units part least most word ≡ Some v
quantity_again units part least most word v are some within =
    let q = within.quantity in
    let n : Numeral = record { whole = q.whole; fraction = q.fraction; unit = q.unit } in
    let plain = plain_unit units q.unit q.scale are.plain q.named in
    let numeral : numeral_of word ≡ n = ap numeral_of q.joined ∙ numeral_again q.whole q.fraction q.unit q.digits q.few plain in
    let scale : scale_of units q.unit ≡ Some q.scale = found_scale units q.unit q.scale are.apart q.named in
    let whole : eqb (length q.whole) 0 ≡ false = not_empty (length q.whole) q.some in
    let divisor : 1 ≤ part * 10 ^ length q.fraction = omega (arith, mul-le 1 1 part (10 ^ length q.fraction) some (few_places (length q.fraction) q.few).0) in
    let value : digits_value 10 (q.whole ++ q.fraction) * q.scale ≡ v * (part * 10 ^ length q.fraction) = q.exact ∙ mul_assoc v part (10 ^ length q.fraction) in
    ap (λ (m : Numeral). measured part least most m (scale_of units m.unit)) numeral
    ∙ ap (measured part least most n) scale
    ∙ rw whole (ap (λ (d : ℕ). quotient_of least most d (part * 10 ^ length q.fraction)) value ∙ is_quotient least most v (part * 10 ^ length q.fraction) divisor within.low within.high)
  where
    not_empty : (k : ℕ) → 1 ≤ k → eqb k 0 ≡ false
    not_empty k h = grind (arith, nat_tests)

-- the digits after the point are those of the numeral
pub fraction_is : (units : Units) (part : ℕ) (word : List ℕ) (v : ℕ) → AreUnits units → (q : IsQuantity units part word v) → (numeral_of word).fraction ≡ q.fraction
fraction_is units part word v are q =
    ap (λ (w : List ℕ). (numeral_of w).fraction) q.joined
    ∙ ap (λ (n : Numeral). n.fraction) (numeral_again q.whole q.fraction q.unit q.digits q.few (plain_unit units q.unit q.scale are.plain q.named))

-- what the code answers is the value of the word
pub value_is : (units : Units) (part least most : ℕ) (word : List ℕ) (n : Numeral) (scale r : Option ℕ) → r ≡ measured part least most n scale → scale ≡ scale_of units n.unit
    → n ≡ numeral_of word → r ≡ quantity_of units part least most word
value_is units part least most word n scale r is found numeral =
    is ∙ ap (measured part least most n) found ∙ ap (λ (m : Numeral). measured part least most m (scale_of units m.unit)) numeral
