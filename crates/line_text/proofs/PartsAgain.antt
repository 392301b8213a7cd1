-- The parts of a printed line are read again.
use Rattle.std.proofs.Common.{◌≡◌, ℕ, suc, ◌+◌, ◌<◌, ◌≤◌, ◌^◌, Bool, true, false, not, cond, eqb, ltb, ◌||◌, List, [], ◌∷◌, ◌++◌, length, take, drop, map, Some, None, Result, Ok, Err, refl, sym, ap, subst, ◌∙◌, arith, inl, inr, true≢false, length-append}
use Rattle.std.specs.Prelude.{decimal, option_map, Option, is_some}
use Rattle.std.specs.Option.{option_and_then}
use Rattle.std.specs.Char.{is_ascii_digit}
use Rattle.std.specs.List.{list_all, position, prefix_len}
use Rattle.std.proofs.lemmas.Bool.{and_from, and_parts, eq-eqb, eqb-true, not_from_false, le-leb}
use Rattle.std.proofs.lemmas.Bool.Decides.{nat_tests}
use Rattle.std.proofs.lemmas.List.{append-nil, append_assoc}
use Rattle.std.proofs.lemmas.List.Folds.{list_all-append}
use Rattle.std.proofs.lemmas.Fmt.{digits_decimal, decimal_nonempty}
use Rattle.std.proofs.Math.Seq.{take-append_seam}
use Rattle.lab_base.specs.Names.{is_name, is_name_byte}
use Rattle.lab_base.specs.Texts.{parted_at, is_blank, is_filled}
use Rattle.lab_base.specs.Kinds.{both_of}
use Rattle.lab_base.specs.Parts.{name_of, number_from, at_least, all_of, joined_to}
use Rattle.lab_base.specs.Lists.{Has}
use Rattle.lab_base.specs.declared.fault.Kind.{Kind}
use Rattle.lab_base.specs.declared.fault.Kind.TheVariants as kinds
use Rattle.lab_base.proofs.Again.{number_again}
use Rattle.lab_base.proofs.Digits.{own}
use Rattle.line_text.specs.Printing.{with_number}
use Rattle.line_text.specs.Pairs.{has_byte, with_one, pair_at, numbered, numbered_parts}

-- WHERE SOMETHING STANDS FIRST

prefix_at : {X : Type 0} (q : X → Bool) (front : List X) (x : X) (rest : List X) → list_all q front ≡ true → q x ≡ false → prefix_len q (front ++ x ∷ rest) ≡ length front
prefix_at q [] x rest all last = rw last refl
prefix_at q (y ∷ front) x rest all last =
    let p = and_parts (q y) (list_all q front) all in
    let more : prefix_len q (front ++ x ∷ rest) ≡ length front = prefix_at q front x rest p.1 last in
    let one : 1 + length front ≡ suc (length front) = omega arith in
    rw (p.0, more) one

prefix_all : {X : Type 0} (q : X → Bool) (xs : List X) → list_all q xs ≡ true → prefix_len q xs ≡ length xs
prefix_all q [] all = refl
prefix_all q (y ∷ xs) all =
    let p = and_parts (q y) (list_all q xs) all in
    let more : prefix_len q xs ≡ length xs = prefix_all q xs p.1 in
    let one : 1 + length xs ≡ suc (length xs) = omega arith in
    rw (p.0, more) one

pub less : (a b : ℕ) → a < b → ltb a b ≡ true
less a b h = grind (arith, nat_tests)

not_less : (a : ℕ) → ltb a a ≡ false
not_less a = grind (arith, nat_tests)

pub position_at : {X : Type 0} (p : X → Bool) (front : List X) (x : X) (rest : List X) → list_all (λ y. not (p y)) front ≡ true → p x ≡ true → position p (front ++ x ∷ rest) ≡ Some (length front)
position_at {X} p front x rest all here =
    let hidden : not (p x) ≡ false = ap not here in
    let at : prefix_len (λ y. not (p y)) (front ++ x ∷ rest) ≡ length front = prefix_at (λ y. not (p y)) front x rest all hidden in
    let within : ltb (length front) (length (front ++ x ∷ rest)) ≡ true = less _ _ (omega (arith, length-append front (x ∷ rest))) in
    (λ i. cond (ltb (at i) (length (front ++ x ∷ rest))) (Some (at i)) None) ∙ ap (λ (b : Bool). cond b (Some (length front)) None) within

pub position_none : {X : Type 0} (p : X → Bool) (xs : List X) → list_all (λ y. not (p y)) xs ≡ true → position p xs ≡ None
position_none p xs all =
    let at : prefix_len (λ y. not (p y)) xs ≡ length xs = prefix_all (λ y. not (p y)) xs all in
    (λ i. cond (ltb (at i) (length xs)) (Some (at i)) None) ∙ ap (λ (b : Bool). cond b (Some (length xs)) None) (not_less (length xs))

pub drop_next : {X : Type 0} (front : List X) (x : X) (rest : List X) → drop (length front + 1) (front ++ x ∷ rest) ≡ rest
drop_next {X} front x rest = let next : length front + 1 ≡ suc (length front) = omega arith in ap (λ (n : ℕ). drop n (front ++ x ∷ rest)) next ∙ by front
  where
    by : (f : List X) → drop (suc (length f)) (f ++ x ∷ rest) ≡ rest
    by [] = refl
    by (y ∷ f) = by f

-- BYTES

-- a byte that passes a test which k doesn't pass is another one
pub others : (p : ℕ → Bool) (k : ℕ) → p k ≡ false → (bytes : List ℕ) → list_all p bytes ≡ true → list_all (λ b. not (eqb b k)) bytes ≡ true
others p k fails [] all = refl
others p k fails (b ∷ bytes) all =
    let parts = and_parts (p b) (list_all p bytes) all in
    and_from _ _ (not_from_false (eqb b k) (one (eqb b k) refl parts.0)) (others p k fails bytes parts.1)
  where
    one : (t : Bool) → eqb b k ≡ t → p b ≡ true → t ≡ false
    one false e h = refl
    one true e h = absurd (true≢false (sym h ∙ ap p (eqb-true b k e) ∙ fails))

pub both_others : (bytes : List ℕ) → list_all (λ b. not (eqb b 32)) bytes ≡ true → list_all (λ b. not (eqb b 9)) bytes ≡ true → list_all (λ b. not (is_blank b)) bytes ≡ true
both_others [] g h = refl
both_others (b ∷ bytes) g h =
    let p = and_parts (not (eqb b 32)) (list_all (λ b. not (eqb b 32)) bytes) g in
    let q = and_parts (not (eqb b 9)) (list_all (λ b. not (eqb b 9)) bytes) h in
    and_from _ _ (neither (eqb b 32) (eqb b 9) p.0 q.0) (both_others bytes p.1 q.1)
  where
    neither : (x y : Bool) → not x ≡ true → not y ≡ true → not (x || y) ≡ true
    neither true y e d = absurd cc
    neither false y e d = d

-- a field of a printed line
pub record IsPlain (field : List ℕ) : Type 0 where
  pub filled : is_filled field ≡ true
  pub no_blank : list_all (λ b. not (is_blank b)) field ≡ true
  pub no_feed : list_all (λ b. not (eqb b 10)) field ≡ true

pub plain_by : (p : ℕ → Bool) → p 32 ≡ false → p 9 ≡ false → p 10 ≡ false → (field : List ℕ) → is_filled field ≡ true → list_all p field ≡ true → IsPlain field
plain_by p space tab feed field filled all = record {
  filled = filled;
  no_blank = both_others field (others p 32 space field all) (others p 9 tab field all);
  no_feed = others p 10 feed field all;
}

pub plain_append : (a b : List ℕ) → IsPlain a → IsPlain b → IsPlain (a ++ b)
plain_append a b x y = record {
  filled = more a b x.filled;
  no_blank = list_all-append (λ c. not (is_blank c)) a b ∙ and_from _ _ x.no_blank y.no_blank;
  no_feed = list_all-append (λ c. not (eqb c 10)) a b ∙ and_from _ _ x.no_feed y.no_feed;
}
  where
    more : (a b : List ℕ) → is_filled a ≡ true → is_filled (a ++ b) ≡ true
    more [] b h = absurd cc
    more (c ∷ a) b h = refl

-- NAMES AND NUMBERS

pub name_bytes : (name : List ℕ) → is_name name ≡ true → list_all is_name_byte name ≡ true
name_bytes name h = (and_parts _ _ (and_parts _ _ h).1).1

pub name_filled : (name : List ℕ) → is_name name ≡ true → is_filled name ≡ true
name_filled [] h = absurd cc
name_filled (b ∷ name) h = refl

pub plain_name : (name : List ℕ) → is_name name ≡ true → IsPlain name
plain_name name h = plain_by is_name_byte refl refl refl name (name_filled name h) (name_bytes name h)

pub plain_number : (n : ℕ) → n < 2 ^ 64 → IsPlain (decimal n)
plain_number n fits = plain_by is_ascii_digit refl refl refl (decimal n) (some (decimal n) (decimal_nonempty n fits)) (digits_decimal own n fits)
  where
    some : (bs : List ℕ) → 1 ≤ length bs → is_filled bs ≡ true
    some [] h = absurd (omega arith)
    some (b ∷ bs) h = refl

plain_colon : IsPlain (58 ∷ [])
plain_colon = record { filled = refl; no_blank = refl; no_feed = refl }

pub plain_pair : (a b : List ℕ) → IsPlain a → IsPlain b → IsPlain (a ++ 58 ∷ b)
plain_pair a b x y = plain_append a (58 ∷ b) x (plain_append (58 ∷ []) b plain_colon y)

pub name_again : (name : List ℕ) → is_name name ≡ true → name_of name ≡ Ok name
name_again name h = ap (λ (b : Bool). cond b (Ok name) (Err kinds.Name)) h

pub parted_again : (at : ℕ) (front rest : List ℕ) → list_all (λ b. not (eqb b at)) front ≡ true → parted_at at (front ++ at ∷ rest) ≡ Some (front, rest)
parted_again at front rest all =
    ap (option_map (λ n. (take n (front ++ at ∷ rest), drop (n + 1) (front ++ at ∷ rest)))) (position_at (λ b. eqb b at) front at rest all (eq-eqb at at refl))
    ∙ (λ i. Some (take-append_seam front (at ∷ rest) i, drop_next front at rest i))

-- a byte that doesn't stand in a field
pub no_byte : (at : ℕ) (field : List ℕ) → list_all (λ b. not (eqb b at)) field ≡ true → has_byte at field ≡ false
no_byte at field all = ap (λ (o : Option ℕ). is_some {T = List ℕ × List ℕ} (option_map (λ n. (take n field, drop (n + 1) field)) o)) (position_none (λ b. eqb b at) field all)

-- one that stands there once
pub pair_again : (at : ℕ) (front rest : List ℕ) → list_all (λ b. not (eqb b at)) front ≡ true → list_all (λ b. not (eqb b at)) rest ≡ true → pair_at at (front ++ at ∷ rest) ≡ Some (front, rest)
pair_again at front rest all others =
    ap (option_and_then (with_one at)) (parted_again at front rest all)
    ∙ ap (λ (b : Bool). cond b None (Some (front, rest))) (no_byte at rest others)

pub has_again : (at : ℕ) (front rest : List ℕ) → list_all (λ b. not (eqb b at)) front ≡ true → has_byte at (front ++ at ∷ rest) ≡ true
has_again at front rest all = ap (λ (o : Option (List ℕ × List ℕ)). is_some o) (parted_again at front rest all)

pub no_byte_name : (at : ℕ) → is_name_byte at ≡ false → (name : List ℕ) → is_name name ≡ true → list_all (λ b. not (eqb b at)) name ≡ true
no_byte_name at other name h = others is_name_byte at other name (name_bytes name h)

pub no_byte_number : (at : ℕ) → is_ascii_digit at ≡ false → (n : ℕ) → n < 2 ^ 64 → list_all (λ b. not (eqb b at)) (decimal n) ≡ true
no_byte_number at other n fits = others is_ascii_digit at other (decimal n) (digits_decimal own n fits)

pub named_pair : (name other : List ℕ) → is_name name ≡ true → is_name other ≡ true → pair_at 58 (name ++ 58 ∷ other) ≡ Some (name, other)
named_pair name other h g = pair_again 58 name other (no_byte_name 58 refl name h) (no_byte_name 58 refl other g)

pub numbered_pair : (name : List ℕ) (n : ℕ) → is_name name ≡ true → n < 2 ^ 64 → pair_at 58 (with_number (name, n)) ≡ Some (name, decimal n)
numbered_pair name n h fits = pair_again 58 name (decimal n) (no_byte_name 58 refl name h) (no_byte_number 58 refl n fits)

pub number_back : (least most n : ℕ) → least ≤ n → n ≤ most → most < 2 ^ 64 → number_from least most (decimal n) ≡ Ok n
number_back least most n low high small =
    ap (at_least least) (number_again most n high small) ∙ ap (λ (b : Bool). cond b (Ok n) (Err kinds.Number)) (le-leb least n low)

pub numbered_again : (least most : ℕ) (name : List ℕ) (n : ℕ) → is_name name ≡ true → least ≤ n → n ≤ most → most < 2 ^ 64 → numbered least most (with_number (name, n)) ≡ Ok (name, n)
numbered_again least most name n named low high small =
    ap (numbered_parts least most) (numbered_pair name n named (omega arith))
    ∙ (λ i. both_of (name_again name named i) (number_back least most n low high small i))

-- LISTS

pub all_again : {X : Type 0} (read : List ℕ → Result X Kind) (w : X → List ℕ) (xs front : List X) → ((x : X) → Has xs x → read (w x) ≡ Ok x) → all_of read (Ok front) (map w xs) ≡ Ok (front ++ xs)
all_again read w [] front each = ap (λ l. Ok l) (sym (append-nil front))
all_again {X} read w (x ∷ xs) front each =
    ap (λ (r : Result X Kind). all_of read (joined_to (both_of (Ok front) r)) (map w xs)) (each x (inl refl))
    ∙ all_again read w xs (front ++ x ∷ []) (λ y h. each y (inr h))
    ∙ ap (λ l. Ok l) (append_assoc front (x ∷ []) xs)

pub all_has : {X : Type 0} (p : X → Bool) (xs : List X) → list_all p xs ≡ true → (x : X) → Has xs x → p x ≡ true
all_has p [] all x h = absurd h
all_has p (y ∷ xs) all x (inl e) = subst (λ v. p v ≡ true) e (and_parts (p y) (list_all p xs) all).0
all_has p (y ∷ xs) all x (inr h) = all_has p xs (and_parts (p y) (list_all p xs) all).1 x h
