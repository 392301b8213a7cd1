-- Relations that are functions: where a plan says what comes next, there is one end.
use Rattle.std.proofs.Common.{◌≡◌, ◌≢◌, ℕ, ◌<◌, ◌≤◌, Bool, true, false, arith, refl, sym, subst, ◌∙◌}

-- How a question is answered: at once, by the answer to another question, or by what there is only one of.
pub data Plan (K R : Type 0) : Type 1 where
  Ends : R → Plan K R
  Asks : K → (R → Plan K R) → Plan K R
  Knows : (A : Type 0) → (P : A → Type 0) → ((a b : A) → P a → P b → a ≡ b) → (A → Plan K R) → Plan K R

-- a plan leads to this answer
pub data Follows {K R : Type 0} (plan : K → Plan K R) : Plan K R → R → Type 1 where
  ends : {r : R} → Follows plan (Ends r) r
  asks : {key : K} {on : R → Plan K R} {r q : R} → Follows plan (plan key) r → Follows plan (on r) q → Follows plan (Asks key on) q
  knows : {A : Type 0} {P : A → Type 0} {one : (a b : A) → P a → P b → a ≡ b} {on : A → Plan K R} {r : R} (a : A) → P a → Follows plan (on a) r
      → Follows plan (Knows A P one on) r

-- it leads to one answer alone
pub follows_once : {K R : Type 0} (plan : K → Plan K R) {p : Plan K R} {r q : R} → Follows plan p r → Follows plan p q → r ≡ q
follows_once plan ends ends = refl
follows_once plan {q = q} (asks {on = on} a b) (asks c d) = follows_once plan b (subst (λ (z : _). Follows plan (on z) q) (sym (follows_once plan a c)) d)
follows_once plan {q = q} (knows {one = one} {on = on} a p b) (knows c s d) = follows_once plan b (subst (λ (z : _). Follows plan (on z) q) (one c a s p) d)

-- one of two facts that exclude each other
abbrev pub Either : Type 0 → Type 0 → Bool → Type 0
Either y n true = y
Either y n false = n

pub either_once : (y n : Type 0) → (y → n → ⊥) → (a b : Bool) → Either y n a → Either y n b → a ≡ b
either_once y n not_both true true h g = refl
either_once y n not_both true false h g = absurd (not_both h g)
either_once y n not_both false true h g = absurd (not_both g h)
either_once y n not_both false false h g = refl

module _ {K R : Type 0} where
  abbrev pub chosen : Plan K R → Plan K R → Bool → Plan K R
  chosen p q true = p
  chosen p q false = q

  -- by two facts that exclude each other
  abbrev pub test : (y n : Type 0) → (y → n → ⊥) → Plan K R → Plan K R → Plan K R
  test y n not_both p q = Knows Bool (Either y n) (either_once y n not_both) (chosen p q)

  -- by whether two numbers are one
  abbrev pub test_same : ℕ → ℕ → Plan K R → Plan K R → Plan K R
  test_same n m p q = test (n ≡ m) (n ≢ m) (λ is not. not is) p q

  -- by whether a number isn't 0
  abbrev pub test_some : ℕ → Plan K R → Plan K R → Plan K R
  test_some n p q = test (0 < n) (n ≡ 0) (λ some none. absurd (omega (arith, some, none))) p q

  -- by whether a number is no less
  abbrev pub test_most : ℕ → ℕ → Plan K R → Plan K R → Plan K R
  test_most n m p q = test (n ≤ m) (m < n) (λ most less. absurd (omega (arith, most, less))) p q

  -- by what something is
  abbrev pub what_is : {A : Type 0} → A → (A → Plan K R) → Plan K R
  what_is {A} x on = Knows A (λ (a : A). x ≡ a) (λ a b is same. sym is ∙ same) on
