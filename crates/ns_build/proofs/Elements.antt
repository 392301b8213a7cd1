-- Tests of the elements of a list: one element more, one changed.
use Rattle.std.proofs.Common.{◌<◌, cond, Some, None, ◌≡◌, ◌⊎◌, inl, inr, ℕ, zero, suc, ◌+◌, Bool, true, false, List, [], ◌∷◌, ◌++◌, length, map, refl, sym, ap, ◌∙◌, arith}
use Rattle.std.specs.Prelude.{◌||◌, nat_lt, not, position}
use Rattle.std.proofs.lemmas.Bool.{ltb-true, lt-ltb, and_from, or_from}
use Rattle.std.proofs.lemmas.Bool.Decides.{nat_tests}
use Rattle.std.specs.List.{list_all, list_any, position_or_len}
use Rattle.lab_base.specs.Lists.{Has}
use Rattle.lab_base.proofs.Tests.{and_first, and_rest, or_first, or_rest}
use Rattle.lab_base.proofs.Members.{all_has, all_from}
use Rattle.ns_build.specs.Networks.{changed_at}

-- EACH ELEMENT PASSES

pub all_push : {X : Type 0} (p : X → Bool) (xs : List X) (x : X) → list_all p xs ≡ true → p x ≡ true → list_all p (xs ++ x ∷ []) ≡ true
all_push p [] x h e = and_from (p x) true e refl
all_push p (y ∷ ys) x h e = and_from (p y) (list_all p (ys ++ x ∷ [])) (and_first (p y) (list_all p ys) h) (all_push p ys x (and_rest (p y) (list_all p ys) h) e)

pub all_changed : {X : Type 0} (p : X → Bool) (f : X → X) (k : ℕ) (xs : List X) → ((x : X) → p x ≡ true → p (f x) ≡ true) → list_all p xs ≡ true → list_all p (changed_at f k xs) ≡ true
all_changed p f k [] keeps h = refl
all_changed p f zero (x ∷ xs) keeps h = and_from (p (f x)) (list_all p xs) (keeps x (and_first (p x) (list_all p xs) h)) (and_rest (p x) (list_all p xs) h)
all_changed p f (suc k) (x ∷ xs) keeps h = and_from (p x) (list_all p (changed_at f k xs)) (and_first (p x) (list_all p xs) h) (all_changed p f k xs keeps (and_rest (p x) (list_all p xs) h))

pub all_weak : {X : Type 0} (p q : X → Bool) (xs : List X) → ((x : X) → p x ≡ true → q x ≡ true) → list_all p xs ≡ true → list_all q xs ≡ true
all_weak p q xs h e = all_from q xs (λ x m. h x (all_has p xs x e m))

-- NO ELEMENT PASSES

pub none_push : {X : Type 0} (p : X → Bool) (xs : List X) (x : X) → list_any p xs ≡ false → p x ≡ false → list_any p (xs ++ x ∷ []) ≡ false
none_push p [] x h e = or_from (p x) false e refl
none_push p (y ∷ ys) x h e = or_from (p y) (list_any p (ys ++ x ∷ [])) (or_first (p y) (list_any p ys) h) (none_push p ys x (or_rest (p y) (list_any p ys) h) e)

pub none_changed : {X : Type 0} (p : X → Bool) (f : X → X) (k : ℕ) (xs : List X) → ((x : X) → p x ≡ false → p (f x) ≡ false) → list_any p xs ≡ false → list_any p (changed_at f k xs) ≡ false
none_changed p f k [] keeps h = refl
none_changed p f zero (x ∷ xs) keeps h = or_from (p (f x)) (list_any p xs) (keeps x (or_first (p x) (list_any p xs) h)) (or_rest (p x) (list_any p xs) h)
none_changed p f (suc k) (x ∷ xs) keeps h = or_from (p x) (list_any p (changed_at f k xs)) (or_first (p x) (list_any p xs) h) (none_changed p f k xs keeps (or_rest (p x) (list_any p xs) h))

-- ELEMENTS

pub Has-changed : {X : Type 0} (f : X → X) (k : ℕ) (xs : List X) (y : X) → Has (changed_at f k xs) y → Has xs y ⊎ ((x : X) × Has xs x × (f x ≡ y))
Has-changed f k [] y m = absurd m
Has-changed f zero (x ∷ xs) y (inl e) = inr (x, inl refl, e)
Has-changed f zero (x ∷ xs) y (inr m) = inl (inr m)
Has-changed f (suc k) (x ∷ xs) y (inl e) = inl (inl e)
Has-changed f (suc k) (x ∷ xs) y (inr m) = elim (Has-changed f k xs y m) [ inl a ↦ inl (inr a) | inr r ↦ inr (r.0, inr r.1, r.2) ]

pub length-changed : {X : Type 0} (f : X → X) (k : ℕ) (xs : List X) → length (changed_at f k xs) ≡ length xs
length-changed f k [] = refl
length-changed f zero (x ∷ xs) = refl
length-changed f (suc k) (x ∷ xs) = ap suc (length-changed f k xs)

pub map-changed : {X Y : Type 0} (h : X → Y) (f : X → X) (k : ℕ) (xs : List X) → ((x : X) → h (f x) ≡ h x) → map h (changed_at f k xs) ≡ map h xs
map-changed h f k [] e = refl
map-changed {X} {Y} h f zero (x ∷ xs) e = ap (λ (y : Y). y ∷ map h xs) (e x)
map-changed {X} {Y} h f (suc k) (x ∷ xs) e = ap (λ (l : List Y). h x ∷ l) (map-changed h f k xs e)

-- PLACES

one_before : (t : Bool) (a n : ℕ) (b : Bool) → nat_lt a n ≡ b → nat_lt (cond (not t) (1 + a) 0) (suc n) ≡ (t || b)
one_before true a n b h = lt-ltb 0 (suc n) (omega arith)
one_before false a n b h = grind (arith, nat_tests)

-- the first that passes is there exactly where one passes
any_position : {X : Type 0} (p : X → Bool) (xs : List X) → nat_lt (position_or_len p xs) (length xs) ≡ list_any p xs
any_position p [] = refl
any_position p (x ∷ xs) = one_before (p x) (position_or_len p xs) (length xs) (list_any p xs) (any_position p xs)

pub index_below : {X : Type 0} (p : X → Bool) (xs : List X) (i : ℕ) → position p xs ≡ Some i → i < length xs
index_below p xs i is = by (nat_lt (position_or_len p xs) (length xs)) refl is
  where
    by : (t : Bool) → nat_lt (position_or_len p xs) (length xs) ≡ t → cond t (Some (position_or_len p xs)) None ≡ Some i → i < length xs
    by true lt e = let same : position_or_len p xs ≡ i = cc in let less : position_or_len p xs < length xs = ltb-true (position_or_len p xs) (length xs) lt in omega arith
    by false lt e = absurd (let none : None ≡ Some i = e in cc)

pub no_place : {X : Type 0} (p : X → Bool) (xs : List X) → position p xs ≡ None → list_any p xs ≡ false
no_place p xs is = by (nat_lt (position_or_len p xs) (length xs)) refl is
  where
    by : (t : Bool) → nat_lt (position_or_len p xs) (length xs) ≡ t → cond t (Some (position_or_len p xs)) None ≡ None → list_any p xs ≡ false
    by true lt e = absurd (let some : Some (position_or_len p xs) ≡ None = e in cc)
    by false lt e = sym (any_position p xs) ∙ lt
