-- The values of digits, and quotients of numbers that are capped.
use Rattle.std.proofs.Common.{◌≡◌, ℕ, suc, ◌+◌, ◌-◌, ◌*◌, ◌/◌, ◌%◌, ◌^◌, ◌<◌, ◌≤◌, Bool, true, false, cond, ltb, eqb, ◌&&◌, List, [], ◌∷◌, ◌++◌, length, take, get_or, Option, Some, None, refl, sym, ap, ◌∙◌, arith, min}
use Rattle.std.specs.Prelude.{nat_le}
use Rattle.std.specs.Char.{is_ascii_digit, digit_value}
use Rattle.std.specs.List.{list_all}
use Rattle.std.specs.Int.{IsInRange}
use Rattle.std.specs.Str.Parse.{digits_value, digits_value_after}
use Rattle.std.proofs.lemmas.Bool.{ltb-false, lt-leb}
use Rattle.std.proofs.lemmas.Bool.Decides.{nat_tests}
use borrow.Author.Tests.{ltb-true}
use Rattle.std.proofs.lemmas.Nat.{mul-le}
use Rattle.std.proofs.Math.Nat.{one-le-pow, pow-le-pow_right, pow-suc, mul-le-mul_left, mul-le-mul_right, le-div_iff_mul-le}
use Rattle.std.proofs.lemmas.Int.Digits.{digits_value_more}
use Rattle.std.proofs.lemmas.Str.Parse.{digit_at, digits_value_short}
use Rattle.lab_base.proofs.Digits.{own, digit_is}
use Rattle.ns_words.specs.Seen.{capped}
use Rattle.ns_words.specs.Values.{Numeral, quotient_of, parts_of}

-- THE NUMBER THAT DIGITS WRITE

pub record IsNext (bs : List ℕ) (i : ℕ) : Type 0 where
  pub low : 48 ≤ get_or bs i 0
  pub high : get_or bs i 0 ≤ 57
  pub next : digits_value 10 (take (i + 1) bs) ≡ digits_value 10 (take i bs) * 10 + (get_or bs i 0 - 48)

pub next_digit : (bs : List ℕ) (i : ℕ) → list_all is_ascii_digit bs ≡ true → i < length bs → IsNext bs i
next_digit bs i digits lt =
    let range : IsInRange 48 57 (get_or bs i 0) = digit_at bs i (own.to bs digits) lt in
    let more = digits_value_more 10 bs i lt in
    let is = digit_is (get_or bs i 0) range in
    record { low = omega arith; high = omega arith; next = omega arith }

-- the value after other digits
after_append : (n : ℕ) (xs ys : List ℕ) → digits_value_after 10 n (xs ++ ys) ≡ digits_value_after 10 (digits_value_after 10 n xs) ys
after_append n [] ys = refl
after_append n (x ∷ xs) ys = after_append (n * 10 + digit_value x) xs ys

after_shift : (n : ℕ) (ys : List ℕ) → digits_value_after 10 n ys ≡ n * 10 ^ length ys + digits_value 10 ys
after_shift n [] = omega arith
after_shift n (y ∷ ys) =
    after_shift (n * 10 + digit_value y) ys
    ∙ regroup n (digit_value y) (10 ^ length ys) (10 ^ suc (length ys)) (digits_value 10 ys) (pow-suc 10 (length ys))
    ∙ ap (λ (m : ℕ). n * 10 ^ suc (length ys) + m) (sym (after_shift (0 * 10 + digit_value y) ys))
  where
    regroup : (n d p q v : ℕ) → q ≡ p * 10 → (n * 10 + d) * p + v ≡ n * q + ((0 * 10 + d) * p + v)
    regroup n d p q v is = rw is (omega arith)

pub digits_append : (xs ys : List ℕ) → digits_value 10 (xs ++ ys) ≡ digits_value 10 xs * 10 ^ length ys + digits_value 10 ys
digits_append xs ys = after_append 0 xs ys ∙ after_shift (digits_value 10 xs) ys

-- CAPPED NUMBERS

-- one digit more
pub capped_more : (n value digit b m next : ℕ) → value ≡ capped n → next ≡ min 10000000000000 (10 * value + digit) → digit ≡ b - 48 → m ≡ n * 10 + (b - 48)
    → next ≡ capped m
capped_more n value digit b m next is least byte more = grind (arith, nat_tests)

capped_is : (n : ℕ) → n < 10000000000000 → capped n ≡ n
capped_is n h = grind (arith, nat_tests)

capped_large : (n : ℕ) → 10000000000000 ≤ n → capped n ≡ 10000000000000
capped_large n h = grind (arith, nat_tests)

pub capped_most : (n : ℕ) → capped n ≤ 10000000000000
capped_most n = grind (arith, nat_tests)

-- at most nine digits are never capped
pub few_digits : (ds : List ℕ) → list_all is_ascii_digit ds ≡ true → length ds ≤ 9 → (capped (digits_value 10 ds) ≡ digits_value 10 ds) × (digits_value 10 ds < 1000000000)
few_digits ds digits few =
    let short : digits_value 10 ds < 10 ^ 9 = digits_value_short own ds 9 digits few in
    (capped_is _ (omega arith), omega arith)

-- nine places at most
pub few_places : (k : ℕ) → k ≤ 9 → (1 ≤ 10 ^ k) × (10 ^ k ≤ 1000000000)
few_places k few =
    let high : 10 ^ k ≤ 10 ^ 9 = pow-le-pow_right (omega arith) few in
    (one-le-pow k 10 (omega arith), high)

-- a number below 10^13 at each place
pub amount_fits : (w p f : ℕ) → w ≤ 10000000000000 → p ≤ 1000000000 → f < 1000000000 → w * p + f < 20000000000000000000000
amount_fits w p f wide few small = omega (arith, mul-le w p 10000000000000 1000000000 wide few)

-- QUOTIENTS

none_above : (a b : Bool) (x : Option ℕ) → cond (a && (b && false)) x None ≡ None
none_above true true x = refl
none_above true false x = refl
none_above false b x = refl

too_large : (least most n d : ℕ) → 1 ≤ d → (most + 1) * d ≤ n → quotient_of least most n d ≡ None
too_large least most n d some large =
    let more : most + 1 ≤ n / d = (le-div_iff_mul-le some).1 large in
    let high : nat_le (n / d) most ≡ false = lt-leb (n / d) most (omega arith) in
    rw high (none_above (eqb (n % d) 0) (nat_le least (n / d)) (Some (n / d)))

large_amount : (most part scale w f p : ℕ) → 1 ≤ scale → part ≤ 1000 → part * most ≤ 1000000000000 → 10000000000000 ≤ w
    → (most + 1) * (part * p) ≤ (w * p + f) * scale
large_amount most part scale w f p some few limit large =
    let parts : (most + 1) * part ≤ w = omega arith in
    let at_places : (most + 1) * part * p ≤ w * p = mul-le-mul_right p parts in
    let scaled : (w * p + f) * 1 ≤ (w * p + f) * scale = mul-le-mul_left (w * p + f) some in
    omega arith

-- where the whole part is capped the quotient is above the limit with it and without
pub same_amount : (least most part scale w f p : ℕ) → 1 ≤ scale → 1 ≤ part → part ≤ 1000 → 1 ≤ p → part * most ≤ 1000000000000
    → quotient_of least most ((capped w * p + f) * scale) (part * p) ≡ quotient_of least most ((w * p + f) * scale) (part * p)
same_amount least most part scale w f p some parts few places limit = by (ltb w 10000000000000) refl
  where
    divisor : 1 ≤ part * p
    divisor = omega (arith, mul-le 1 1 part p parts places)

    by : (b : Bool) → ltb w 10000000000000 ≡ b
        → quotient_of least most ((capped w * p + f) * scale) (part * p) ≡ quotient_of least most ((w * p + f) * scale) (part * p)
    by true is = ap (λ (n : ℕ). quotient_of least most ((n * p + f) * scale) (part * p)) (capped_is w (ltb-true w 10000000000000 is))
    by false is =
        let large : 10000000000000 ≤ w = ltb-false w 10000000000000 is in
        let high : 10000000000000 ≤ capped w = omega (arith, capped_large w large) in
        too_large least most ((capped w * p + f) * scale) (part * p) divisor (large_amount most part scale (capped w) f p some few limit high)
        ∙ sym (too_large least most ((w * p + f) * scale) (part * p) divisor (large_amount most part scale w f p some few limit large))

-- the parts of a numeral by its capped whole part
pub parts_are : (part least most scale power number s divisor : ℕ) (n : Numeral) → 1 ≤ scale → 1 ≤ part → part ≤ 1000 → part * most ≤ 1000000000000 → length n.fraction ≤ 9
    → power ≡ 10 ^ length n.fraction → number ≡ capped (digits_value 10 n.whole) * power + digits_value 10 n.fraction → s ≡ scale → divisor ≡ part * power
    → eqb (length n.whole) 0 ≡ false → quotient_of least most (number * s) divisor ≡ parts_of part least most n scale
parts_are part least most scale power number s divisor n some parts few limit places at is scaled by_part filled =
    let w = digits_value 10 n.whole in
    let f = digits_value 10 n.fraction in
    let p : 1 ≤ power = omega (arith, (few_places (length n.fraction) places).0) in
    let given : quotient_of least most (number * s) divisor ≡ quotient_of least most ((capped w * power + f) * scale) (part * power) = cc in
    let joined : (w * power + f) ≡ digits_value 10 (n.whole ++ n.fraction) = ap (λ (q : ℕ). w * q + f) at ∙ sym (digits_append n.whole n.fraction) in
    let value : quotient_of least most ((w * power + f) * scale) (part * power) ≡ quotient_of least most (digits_value 10 (n.whole ++ n.fraction) * scale) (part * 10 ^ length n.fraction) =
    ap (λ (m : ℕ). quotient_of least most (m * scale) (part * power)) joined ∙ ap (λ (q : ℕ). quotient_of least most (digits_value 10 (n.whole ++ n.fraction) * scale) (part * q)) at in
    rw filled (given ∙ same_amount least most part scale w f power some parts few p limit ∙ value)
