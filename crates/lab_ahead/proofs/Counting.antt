-- Counts of elements, and elements by their places.
use Rattle.std.proofs.Common.{◌≡◌, ◌⊎◌, ◌<◌, ◌≤◌, ◌+◌, ℕ, zero, suc, Bool, true, false, cond, List, [], ◌∷◌, length, map, get_or, count_by, refl, sym, ap, ◌∙◌, inl, inr, arith}
use Rattle.std.proofs.lemmas.List.Sums.{sum_by-cons}
use Rattle.lab_base.specs.Lists.{Has, AllDiffer}

abbrev pub one_if : Bool → ℕ
one_if b = cond b 1 0

pub count-cons : {X : Type 0} (p : X → Bool) (x : X) (xs : List X) → count_by p (x ∷ xs) ≡ one_if (p x) + count_by p xs
count-cons p x xs = sum_by-cons (λ y. cond (p y) 1 0) x xs

pub below_if : (p q : Bool) → (p ≡ true → q ≡ true) → one_if p ≤ one_if q
below_if false q h = omega arith
below_if true q h = rw (h refl) (omega arith)

-- of two lists of one length, where each place that any_has here any_has there
pub count_beside : {X Y : Type 0} (p : X → Bool) (q : Y → Bool) (xs : List X) (ys : List Y) (d : X) (e : Y) → length xs ≡ length ys
    → ((i : ℕ) → i < length xs → p (get_or xs i d) ≡ true → q (get_or ys i e) ≡ true) → count_by p xs ≤ count_by q ys
count_beside p q [] ys d e same h = omega arith
count_beside p q (x ∷ xs) [] d e same h = absurd (omega arith)
count_beside p q (x ∷ xs) (y ∷ ys) d e same h =
    let rest : count_by p xs ≤ count_by q ys = count_beside p q xs ys d e (omega arith) (λ i lt. h (suc i) (omega arith)) in
    let first : one_if (p x) ≤ one_if (q y) = below_if (p x) (q y) (h zero (omega arith)) in
    omega (arith, count-cons p x xs, count-cons q y ys)

-- where each element that any_has one test any_has the other
pub count_of_more : {X : Type 0} (p q : X → Bool) (xs : List X) → ((x : X) → Has xs x → p x ≡ true → q x ≡ true) → count_by p xs ≤ count_by q xs
count_of_more p q [] h = omega arith
count_of_more p q (x ∷ xs) h =
    let rest : count_by p xs ≤ count_by q xs = count_of_more p q xs (λ y there. h y (inr there)) in
    let first : one_if (p x) ≤ one_if (q x) = below_if (p x) (q x) (h x (inl refl)) in
    omega (arith, count-cons p x xs, count-cons q x xs)

pub count-map : {X Y : Type 0} (p : Y → Bool) (f : X → Y) (xs : List X) → count_by p (map f xs) ≡ count_by (λ x. p (f x)) xs
count-map p f [] = refl
count-map p f (x ∷ xs) = omega (arith, count-cons p (f x) (map f xs), count-cons (λ y. p (f y)) x xs, count-map p f xs)

-- a list without one of its elements
record Without {X : Type 0} (ys : List X) (x : X) : Type 0 where
  pub rest : List X
  pub count : (p : X → Bool) → count_by p ys ≡ one_if (p x) + count_by p rest
  pub others : (z : X) → Has ys z → (z ≡ x) ⊎ Has rest z

without : {X : Type 0} (ys : List X) (x : X) → Has ys x → Without ys x
without [] x h = absurd h
without {X} (y ∷ ys) x (inl e) = record {
  rest = ys;
  count = λ p. count-cons p y ys ∙ ap (λ (v : X). one_if (p v) + count_by p ys) e;
  others = λ z h. elim h [ inl d ↦ inl (sym d ∙ e) | inr g ↦ inr g ];
}
without {X} (y ∷ ys) x (inr h) =
    let later = without ys x h in record {
      rest = y ∷ later.rest;
      count = λ p. omega (arith, count-cons p y ys, count-cons p y later.rest, later.count p);
      others = λ z g. elim g [
        | inl d ↦ inr (inl d)
        | inr there ↦ elim (later.others z there) [ inl d ↦ inl d | inr k ↦ inr (inr k) ]
      ];
    }

-- different elements that are all in another list
pub count_among : {X : Type 0} (p : X → Bool) (xs ys : List X) → AllDiffer xs → ((x : X) → Has xs x → Has ys x) → count_by p xs ≤ count_by p ys
count_among p [] ys differ among = omega arith
count_among {X} p (x ∷ xs) ys differ among =
    let less = without ys x (among x (inl refl)) in
    let rest : count_by p xs ≤ count_by p less.rest = count_among p xs less.rest differ.1 still in
    omega (arith, count-cons p x xs, less.count p)
  where
    still : (z : X) → Has xs z → Has (without ys x (among x (inl refl))).rest z
    still z h = elim ((without ys x (among x (inl refl))).others z (among z (inr h))) [ inl e ↦ absurd (differ.0 z h (sym e)) | inr g ↦ g ]
