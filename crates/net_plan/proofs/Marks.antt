-- Names of parts: a link's name, a dot, and a mark without one.
use Rattle.std.specs.Prelude.{not, decimal, ◌||◌}
use Rattle.std.proofs.Common.{◌≡◌, ◌≢◌, ◌⊎◌, inl, inr, ℕ, zero, suc, ◌%◌, ◌/◌, ◌^◌, ◌<◌, Bool, true, false, cond, eqb, List, [], ◌∷◌, ◌++◌, refl, sym, ap, subst, ◌∙◌, arith}
use Rattle.std.specs.List.{list_all}
use Rattle.std.specs.Char.{is_ascii_digit}
use Rattle.std.specs.Fmt.{digits, digits_onto, digit_glyph}
use Rattle.std.specs.Str.Parse.{digits_value}
use Rattle.std.proofs.lemmas.Bool.{and_parts, and_from}
use Rattle.std.proofs.lemmas.Bool.Decides.{nat_tests}
use Rattle.std.proofs.lemmas.Fmt.{digits_value-decimal}
use Rattle.std.proofs.lemmas.List.Folds.{list_all-append}
use Rattle.lab_base.proofs.Digits.{own}
use Rattle.lab_base.proofs.Members.{all_weaker}
use Rattle.virt_topo.specs.Topos.{is_word_byte, IsAskedName}
use Rattle.virt_topo.specs.Topos.IsAskedName.{plain, indexed, numbered_one}

-- BYTES WITHOUT A DOT

abbrev pub is_no_dot : ℕ → Bool
is_no_dot b = not (eqb b 46)

abbrev pub IsDotless : List ℕ → Type 0
IsDotless bytes = list_all is_no_dot bytes ≡ true

dot_in : (a x : List ℕ) → IsDotless (a ++ 46 ∷ x) → ⊥
dot_in [] x h = cc (and_parts (is_no_dot 46) (list_all is_no_dot x) h).0
dot_in (b ∷ a) x h = dot_in a x (and_parts (is_no_dot b) (list_all is_no_dot (a ++ 46 ∷ x)) h).1

-- the last dot parts a name in one way
pub last_dot : (a b x y : List ℕ) → IsDotless x → IsDotless y → a ++ 46 ∷ x ≡ b ++ 46 ∷ y → (a ≡ b) × (x ≡ y)
last_dot [] [] x y hx hy e = (refl, cc e)
last_dot [] (c ∷ b) x y hx hy e = let rest : x ≡ b ++ 46 ∷ y = cc e in absurd (dot_in b y (subst IsDotless rest hx))
last_dot (c ∷ a) [] x y hx hy e = let rest : a ++ 46 ∷ x ≡ y = cc e in absurd (dot_in a x (subst IsDotless (sym rest) hy))
last_dot (c ∷ a) (d ∷ b) x y hx hy e =
    let head : c ≡ d = cc e in
    let rest : a ++ 46 ∷ x ≡ b ++ 46 ∷ y = cc e in
    let r = last_dot a b x y hx hy rest in
    (λ i. head i ∷ r.0 i, r.1)

-- and so does the first
first_dot : (a b x y : List ℕ) → IsDotless a → IsDotless b → a ++ 46 ∷ x ≡ b ++ 46 ∷ y → (a ≡ b) × (x ≡ y)
first_dot [] [] x y ha hb e = (refl, cc e)
first_dot [] (c ∷ b) x y ha hb e =
    let head : 46 ≡ c = cc e in
    absurd (cc (ap is_no_dot head, (and_parts (is_no_dot c) (list_all is_no_dot b) hb).0))
first_dot (c ∷ a) [] x y ha hb e =
    let head : c ≡ 46 = cc e in
    absurd (cc (ap is_no_dot head, (and_parts (is_no_dot c) (list_all is_no_dot a) ha).0))
first_dot (c ∷ a) (d ∷ b) x y ha hb e =
    let head : c ≡ d = cc e in
    let rest : a ++ 46 ∷ x ≡ b ++ 46 ∷ y = cc e in
    let r = first_dot a b x y (and_parts (is_no_dot c) _ ha).1 (and_parts (is_no_dot d) _ hb).1 rest in
    (λ i. head i ∷ r.0 i, r.1)

-- DECIMAL NUMBERS

digit_no_dot : (b : ℕ) → is_ascii_digit b ≡ true → is_no_dot b ≡ true
digit_no_dot b h = grind (arith, nat_tests)

glyph_no_dot : (d : ℕ) → is_no_dot (digit_glyph false d) ≡ true
glyph_no_dot d = grind (arith, nat_tests)

digits_no_dot : (k n : ℕ) (acc : List ℕ) → IsDotless acc → IsDotless (digits_onto k 10 false n acc)
digits_no_dot zero n acc h = h
digits_no_dot (suc k) n acc h =
    by (eqb (n / 10) 0) (and_from _ _ (glyph_no_dot (n % 10)) h) (digits_no_dot k (n / 10) (digit_glyph false (n % 10) ∷ acc) (and_from _ _ (glyph_no_dot (n % 10)) h))
  where
    by : (b : Bool) → IsDotless (digit_glyph false (n % 10) ∷ acc) → IsDotless (digits_onto k 10 false (n / 10) (digit_glyph false (n % 10) ∷ acc)) → IsDotless (cond b (digit_glyph false (n % 10) ∷ acc) (digits_onto k 10 false (n / 10) (digit_glyph false (n % 10) ∷ acc)))
    by true one more = one
    by false one more = more

pub decimal_no_dot : (n : ℕ) → IsDotless (decimal n)
unfolding digits
decimal_no_dot n = digits_no_dot 64 n [] refl

pub decimal_same : (m n : ℕ) → m < 1000 → n < 1000 → decimal m ≡ decimal n → m ≡ n
decimal_same m n a b e =
    let fits : m < 2 ^ 64 = omega arith in
    let fits' : n < 2 ^ 64 = omega arith in
    sym (digits_value-decimal own m fits) ∙ ap (digits_value 10) e ∙ digits_value-decimal own n fits'

-- ASKED NAMES

word_no_dot : (b : ℕ) → is_word_byte b ≡ true → is_no_dot b ≡ true
word_no_dot b h = grind (arith, nat_tests)

index_no_dot : (b : ℕ) → (is_word_byte b || eqb b 45) ≡ true → is_no_dot b ≡ true
index_no_dot b h = grind (arith, nat_tests)

-- an asked name has no dot, or is `tb`, a dot, a letter and a number
pub asked_form : (letter : ℕ) (name : List ℕ) → IsAskedName (116 ∷ 98 ∷ 46 ∷ letter ∷ []) name → IsDotless name ⊎ ((k : ℕ) × (name ≡ 116 ∷ 98 ∷ 46 ∷ letter ∷ decimal k))
asked_form letter name (plain is) = inl (all_weaker is_word_byte is_no_dot word_no_dot name is.1)
asked_form letter name (indexed v i is at e) =
    let first = all_weaker is_word_byte is_no_dot word_no_dot v is.1 in
    let second = all_weaker (λ b. is_word_byte b || eqb b 45) is_no_dot index_no_dot i at.1 in
    inl (subst IsDotless (sym e) (list_all-append is_no_dot v (45 ∷ i) ∙ and_from _ _ first (and_from _ _ refl second)))
asked_form letter name (numbered_one k e) = inr (k, e)

-- an asked name is no asked link's name with a mark whose first byte is another letter
pub asked_apart : (letter other : ℕ) (name link mark : List ℕ) → IsAskedName (116 ∷ 98 ∷ 46 ∷ letter ∷ []) name → IsAskedName (116 ∷ 98 ∷ 46 ∷ 108 ∷ []) link → IsDotless (other ∷ mark) → other ≢ letter
    → name ≡ link ++ 46 ∷ other ∷ mark → ⊥
asked_apart letter other name link mark is at dotless ne e =
    elim (asked_form letter name is) [
      | inl none ↦ dot_in link (other ∷ mark) (subst IsDotless e none)
      | inr tb ↦ elim (asked_form 108 link at) [
        | inl none ↦
            let r = first_dot link (116 ∷ 98 ∷ []) (other ∷ mark) (letter ∷ decimal tb.0) none refl (sym e ∙ tb.1) in
            ne (cc r.1)
        | inr two ↦
            let whole : (116 ∷ 98 ∷ 46 ∷ 108 ∷ decimal two.0) ++ 46 ∷ other ∷ mark ≡ 116 ∷ 98 ∷ 46 ∷ letter ∷ decimal tb.0 = ap (λ (l : List ℕ). l ++ 46 ∷ other ∷ mark) (sym two.1) ∙ sym e ∙ tb.1 in
            let rest : decimal two.0 ++ 46 ∷ other ∷ mark ≡ decimal tb.0 = cc whole in
            dot_in (decimal two.0) (other ∷ mark) (subst IsDotless (sym rest) (decimal_no_dot tb.0))
      ]
    ]
