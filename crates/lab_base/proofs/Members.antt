-- Elements of lists.
use Rattle.std.proofs.Common.{◌≡◌, ◌≢◌, ◌⊎◌, inl, inr, Bool, false, ◌||◌, List, [], ◌∷◌, ◌++◌, map, refl, sym, ap, ◌∙◌, subst, true, cond, ℕ, zero, suc, ◌<◌, Some, length, get_or, arith, slice_get}
use Rattle.std.specs.List.{flat_map, list_any, list_all, find, filter}
use Rattle.std.proofs.lemmas.Bool.{or_parts, and_parts, and_from, or_cases, or_left, or_right, cases_Bool, false_from_ne_true}
use Rattle.std.proofs.lemmas.Option.{same_Some}
use Rattle.lab_base.specs.Lists.{Has, Apart, AllDiffer}

pub Has-left : {X : Type 0} (xs ys : List X) (x : X) → Has xs x → Has (xs ++ ys) x
Has-left [] ys x h = absurd h
Has-left (y ∷ xs) ys x (inl e) = inl e
Has-left (y ∷ xs) ys x (inr h) = inr (Has-left xs ys x h)

pub Has-right : {X : Type 0} (xs ys : List X) (x : X) → Has ys x → Has (xs ++ ys) x
Has-right [] ys x h = h
Has-right (y ∷ xs) ys x h = inr (Has-right xs ys x h)

pub Has-append : {X : Type 0} (xs ys : List X) (x : X) → Has (xs ++ ys) x → Has xs x ⊎ Has ys x
Has-append [] ys x h = inr h
Has-append (y ∷ xs) ys x (inl e) = inl (inl e)
Has-append (y ∷ xs) ys x (inr h) = elim (Has-append xs ys x h) [ inl a ↦ inl (inr a) | inr b ↦ inr b ]

pub Has-map : {X Y : Type 0} (f : X → Y) (xs : List X) (y : Y) → Has (map f xs) y → (x : X) × Has xs x × (f x ≡ y)
Has-map f [] y h = absurd h
Has-map f (x ∷ xs) y (inl e) = (x, inl refl, e)
Has-map f (x ∷ xs) y (inr h) = let r = Has-map f xs y h in (r.0, inr r.1, r.2)

pub Has-mapped : {X Y : Type 0} (f : X → Y) (xs : List X) (x : X) → Has xs x → Has (map f xs) (f x)
Has-mapped f [] x h = absurd h
Has-mapped f (y ∷ xs) x (inl e) = inl (ap f e)
Has-mapped f (y ∷ xs) x (inr h) = inr (Has-mapped f xs x h)

pub Has-flat_map : {X Y : Type 0} (f : X → List Y) (xs : List X) (y : Y) → Has (flat_map f xs) y → (x : X) × Has xs x × Has (f x) y
Has-flat_map f [] y h = absurd h
Has-flat_map f (x ∷ xs) y h = elim (Has-append (f x) (flat_map f xs) y h) [
  | inl a ↦ (x, inl refl, a)
  | inr b ↦ let r = Has-flat_map f xs y b in (r.0, inr r.1, r.2)
]

pub Has-flat_mapped : {X Y : Type 0} (f : X → List Y) (xs : List X) (x : X) (y : Y) → Has xs x → Has (f x) y → Has (flat_map f xs) y
Has-flat_mapped f [] x y h g = absurd h
Has-flat_mapped f (z ∷ xs) x y (inl e) g = Has-left (f z) (flat_map f xs) y (subst (λ v. Has (f v) y) (sym e) g)
Has-flat_mapped f (z ∷ xs) x y (inr h) g = Has-right (f z) (flat_map f xs) y (Has-flat_mapped f xs x y h g)

-- two elements that no pair of different places may have are one
pub Apart-same : {X : Type 0} (R : X → X → Type 0) (xs : List X) (x y : X) → Apart R xs → Has xs x → Has xs y → (R x y → ⊥) → (R y x → ⊥) → x ≡ y
Apart-same R [] x y apart h g never back = absurd h
Apart-same R (z ∷ xs) x y apart (inl a) (inl b) never back = sym a ∙ b
Apart-same R (z ∷ xs) x y apart (inl a) (inr g) never back = absurd (never (subst (λ v. R v y) a (apart.0 y g)))
Apart-same R (z ∷ xs) x y apart (inr h) (inl b) never back = absurd (back (subst (λ v. R v x) b (apart.0 x h)))
Apart-same R (z ∷ xs) x y apart (inr h) (inr g) never back = Apart-same R xs x y apart.1 h g never back

pub Apart-right : {X : Type 0} (R : X → X → Type 0) (xs ys : List X) → Apart R (xs ++ ys) → Apart R ys
Apart-right R [] ys apart = apart
Apart-right R (x ∷ xs) ys apart = Apart-right R xs ys apart.1

pub Apart-left : {X : Type 0} (R : X → X → Type 0) (xs ys : List X) → Apart R (xs ++ ys) → Apart R xs
Apart-left R [] ys apart = tt
Apart-left R (x ∷ xs) ys apart = (λ y h. apart.0 y (Has-left xs ys y h), Apart-left R xs ys apart.1)

pub Apart-across : {X : Type 0} (R : X → X → Type 0) (xs ys : List X) (x y : X) → Apart R (xs ++ ys) → Has xs x → Has ys y → R x y
Apart-across R [] ys x y apart h g = absurd h
Apart-across R (z ∷ xs) ys x y apart (inl e) g = subst (λ v. R v y) e (apart.0 y (Has-right xs ys y g))
Apart-across R (z ∷ xs) ys x y apart (inr h) g = Apart-across R xs ys x y apart.1 h g

-- one value in the lists of two elements: they are one
pub flat-same : {X Y : Type 0} (f : X → List Y) (xs : List X) (x y : X) (v : Y) → AllDiffer (flat_map f xs) → Has xs x → Has xs y → Has (f x) v → Has (f y) v → x ≡ y
flat-same f [] x y v differ h g a b = absurd h
flat-same f (z ∷ xs) x y v differ (inl e) (inl d) a b = sym e ∙ d
flat-same f (z ∷ xs) x y v differ (inl e) (inr g) a b =
    absurd (Apart-across (λ p q. p ≢ q) (f z) (flat_map f xs) v v differ (subst (λ u. Has (f u) v) (sym e) a) (Has-flat_mapped f xs y v g b) refl)
flat-same f (z ∷ xs) x y v differ (inr h) (inl d) a b =
    absurd (Apart-across (λ p q. p ≢ q) (f z) (flat_map f xs) v v differ (subst (λ u. Has (f u) v) (sym d) b) (Has-flat_mapped f xs x v h a) refl)
flat-same f (z ∷ xs) x y v differ (inr h) (inr g) a b = flat-same f xs x y v (Apart-right (λ p q. p ≢ q) (f z) (flat_map f xs) differ) h g a b

-- the lists of one element differ in themselves
pub flat-each : {X Y : Type 0} (f : X → List Y) (xs : List X) (x : X) → AllDiffer (flat_map f xs) → Has xs x → AllDiffer (f x)
flat-each f [] x differ h = absurd h
flat-each f (z ∷ xs) x differ (inl e) = subst (λ u. AllDiffer (f u)) e (Apart-left (λ p q. p ≢ q) (f z) (flat_map f xs) differ)
flat-each f (z ∷ xs) x differ (inr h) = flat-each f xs x (Apart-right (λ p q. p ≢ q) (f z) (flat_map f xs) differ) h

-- TESTS OF ELEMENTS

-- no element passes the test
pub none_has : {X : Type 0} (test : X → Bool) (xs : List X) (x : X) → list_any test xs ≡ false → Has xs x → test x ≡ false
none_has test [] x t h = absurd h
none_has test (y ∷ xs) x t (inl e) = sym (ap test e) ∙ (or_parts (test y) (list_any test xs) t).0
none_has test (y ∷ xs) x t (inr h) = none_has test xs x (or_parts (test y) (list_any test xs) t).1 h

pub any_map : {X Y : Type 0} (p : Y → Bool) (f : X → Y) (xs : List X) → list_any p (map f xs) ≡ list_any (λ x. p (f x)) xs
any_map p f [] = refl
any_map p f (x ∷ xs) = ap (λ (b : Bool). p (f x) || b) (any_map p f xs)

-- some element passes the test
pub any_has : {X : Type 0} (test : X → Bool) (xs : List X) (x : X) → Has xs x → test x ≡ true → list_any test xs ≡ true
any_has test [] x h t = absurd h
any_has test (y ∷ xs) x (inl e) t = or_left (test y) (list_any test xs) (ap test e ∙ t)
any_has test (y ∷ xs) x (inr h) t = or_right (test y) (list_any test xs) (any_has test xs x h t)

pub any_from : {X : Type 0} (test : X → Bool) (xs : List X) → list_any test xs ≡ true → (x : X) × Has xs x × (test x ≡ true)
any_from test [] t = absurd (cc t)
any_from test (x ∷ xs) t = elim (or_cases (test x) (list_any test xs) t) [
  | inl here ↦ (x, inl refl, here)
  | inr there ↦ let r = any_from test xs there in (r.0, inr r.1, r.2)
]

pub none_from : {X : Type 0} (test : X → Bool) (xs : List X) → ((x : X) → Has xs x → test x ≡ false) → list_any test xs ≡ false
none_from test [] each = refl
none_from test (x ∷ xs) each = λ i. each x (inl refl) i || none_from test xs (λ y h. each y (inr h)) i

pub none_of : {X : Type 0} (test : X → Bool) (xs : List X) → ((x : X) → Has xs x → test x ≡ true → ⊥) → list_any test xs ≡ false
none_of test xs none = none_from test xs (λ x h. false_from_ne_true (test x) (none x h))

-- each element passes the test
pub all_has : {X : Type 0} (test : X → Bool) (xs : List X) (x : X) → list_all test xs ≡ true → Has xs x → test x ≡ true
all_has test [] x t h = absurd h
all_has test (y ∷ xs) x t (inl e) = sym (ap test e) ∙ (and_parts (test y) (list_all test xs) t).0
all_has test (y ∷ xs) x t (inr h) = all_has test xs x (and_parts (test y) (list_all test xs) t).1 h

pub all_from : {X : Type 0} (test : X → Bool) (xs : List X) → ((x : X) → Has xs x → test x ≡ true) → list_all test xs ≡ true
all_from test [] each = refl
all_from test (x ∷ xs) each = and_from (test x) (list_all test xs) (each x (inl refl)) (all_from test xs (λ y h. each y (inr h)))

pub all_weaker : {X : Type 0} (p q : X → Bool) → ((x : X) → p x ≡ true → q x ≡ true) → (xs : List X) → list_all p xs ≡ true → list_all q xs ≡ true
all_weaker p q from [] all = refl
all_weaker p q from (x ∷ xs) all = let parts = and_parts (p x) (list_all p xs) all in and_from (q x) (list_all q xs) (from x parts.0) (all_weaker p q from xs parts.1)

-- the first element that passes
pub found_has : {X : Type 0} (test : X → Bool) (xs : List X) (x : X) → find test xs ≡ Some x → Has xs x × (test x ≡ true)
found_has test [] x e = absurd (cc e)
found_has {X} test (y ∷ xs) x e = by (λ later. found_has test xs x later) (test y) refl e
  where
    by : (find test xs ≡ Some x → Has xs x × (test x ≡ true)) → (b : Bool) → test y ≡ b → cond b (Some y) (find test xs) ≡ Some x → Has (y ∷ xs) x × (test x ≡ true)
    by rest true is e = let same : y ≡ x = cc e in (inl same, ap test (sym same) ∙ is)
    by rest false is e = let later = rest e in (inr later.0, later.1)

pub Has-filter : {X : Type 0} (p : X → Bool) (xs : List X) (x : X) → Has (filter p xs) x → Has xs x × (p x ≡ true)
Has-filter p [] x h = absurd h
Has-filter p (y ∷ xs) x h = elim (cases_Bool (p y)) [
  | inl is ↦
      let here : Has (y ∷ filter p xs) x = subst (λ b. Has (cond b (y ∷ filter p xs) (filter p xs)) x) is h in
      elim here [ inl e ↦ (inl e, ap p (sym e) ∙ is) | inr g ↦ let r = Has-filter p xs x g in (inr r.0, r.1) ]
  | inr is ↦
      let rest : Has (filter p xs) x = subst (λ b. Has (cond b (y ∷ filter p xs) (filter p xs)) x) is h in
      let r = Has-filter p xs x rest in (inr r.0, r.1)
]

pub Has-filtered : {X : Type 0} (p : X → Bool) (xs : List X) (x : X) → Has xs x → p x ≡ true → Has (filter p xs) x
Has-filtered p [] x h passes = absurd h
Has-filtered p (y ∷ xs) x (inl e) passes = subst (λ b. Has (cond b (y ∷ filter p xs) (filter p xs)) x) (sym passes ∙ ap p (sym e)) (inl e)
Has-filtered p (y ∷ xs) x (inr h) passes = elim (cases_Bool (p y)) [
  | inl is ↦ subst (λ b. Has (cond b (y ∷ filter p xs) (filter p xs)) x) (sym is) (inr (Has-filtered p xs x h passes))
  | inr is ↦ subst (λ b. Has (cond b (y ∷ filter p xs) (filter p xs)) x) (sym is) (Has-filtered p xs x h passes)
]

-- ELEMENTS AND PLACES

pub Has-either : {X : Type 0} (xs ys : List X) (x : X) → Has xs x ⊎ Has ys x → Has (xs ++ ys) x
Has-either xs ys x (inl h) = Has-left xs ys x h
Has-either xs ys x (inr h) = Has-right xs ys x h

-- an element stays one where another is put between
pub Has-between : {X : Type 0} (xs ys : List X) (x y : X) → Has (xs ++ ys) y → Has (xs ++ x ∷ ys) y
Has-between xs ys x y h = elim (Has-append xs ys y h) [ inl p ↦ Has-left xs (x ∷ ys) y p | inr q ↦ Has-right xs (x ∷ ys) y (inr q) ]

pub Has-push : {X : Type 0} (xs : List X) (y x : X) → Has (xs ++ y ∷ []) x → Has xs x ⊎ (y ≡ x)
Has-push xs y x h = elim (Has-append xs (y ∷ []) x h) [ inl old ↦ inl old | inr new ↦ elim new [ inl is ↦ inr is | inr none ↦ absurd none ] ]

pub Has-get_or : {X : Type 0} (xs : List X) (i : ℕ) (d : X) → i < length xs → Has xs (get_or xs i d)
Has-get_or [] i d h = absurd (omega arith)
Has-get_or (x ∷ xs) zero d h = inl refl
Has-get_or (x ∷ xs) (suc i) d h = inr (Has-get_or xs i d (omega arith))

-- an item that is read is an element
pub Has-at : {X : Type 0} (xs : List X) (i : ℕ) (x : X) → i < length xs → x ≡ get_or xs i x → Has xs x
Has-at [] i x lt is = absurd (omega arith)
Has-at (y ∷ xs) zero x lt is = inl (sym is)
Has-at (y ∷ xs) (suc i) x lt is = inr (Has-at xs i x (omega arith) is)

pub Has-slice_get : {X : Type 0} (xs : List X) (n : ℕ) (x : X) → slice_get xs n ≡ Some x → Has xs x
Has-slice_get [] n x is = cc
Has-slice_get (y ∷ xs) zero x is = inl (same_Some y x is)
Has-slice_get (y ∷ xs) (suc n) x is = inr (Has-slice_get xs n x is)

-- an element has a place
pub Has-place : {X : Type 0} (xs : List X) (x d : X) → Has xs x → (i : ℕ) × (i < length xs) × (get_or xs i d ≡ x)
Has-place [] x d h = absurd h
Has-place (y ∷ xs) x d (inl e) = (0, omega arith, e)
Has-place (y ∷ xs) x d (inr h) = let r = Has-place xs x d h in (suc r.0, omega (arith, r.1), r.2)

-- elements that differ stand at different places
pub differ_at : {X : Type 0} (xs : List X) (i j : ℕ) (d : X) → AllDiffer xs → i < length xs → j < length xs → get_or xs i d ≡ get_or xs j d → i ≡ j
differ_at [] i j d all h g e = absurd (omega (arith, h))
differ_at (x ∷ xs) zero zero d all h g e = refl
differ_at (x ∷ xs) zero (suc j) d all h g e = absurd (all.0 (get_or xs j d) (Has-get_or xs j d (omega (arith, g))) e)
differ_at (x ∷ xs) (suc i) zero d all h g e = absurd (all.0 (get_or xs i d) (Has-get_or xs i d (omega (arith, h))) (sym e))
differ_at (x ∷ xs) (suc i) (suc j) d all h g e = ap suc (differ_at xs i j d all.1 (omega (arith, h)) (omega (arith, g)) e)

pub Apart-append : {X : Type 0} (R : X → X → Type 0) (xs ys : List X) → Apart R xs → Apart R ys → ((x y : X) → Has xs x → Has ys y → R x y) → Apart R (xs ++ ys)
Apart-append R [] ys p q across = q
Apart-append R (x ∷ xs) ys p q across = (
  λ y h. elim (Has-append xs ys y h) [ inl a ↦ p.0 y a | inr b ↦ across x y (inl refl) b ],
  Apart-append R xs ys p.1 q (λ z y h g. across z y (inr h) g),
)
