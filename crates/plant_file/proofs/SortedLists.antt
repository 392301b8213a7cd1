-- Lists that are sorted and freed of repeats, and what is given of the elements of a list.
use Rattle.std.proofs.Common.{◌≡◌, inl, inr, Bool, true, List, [], ◌∷◌, Option, Some, None, Contains, Ordering, Less, refl, sym, ap, ◌∙◌, subst}
use Rattle.std.specs.Prelude.{◌↔◌}
use Rattle.std.specs.Cmp.{IsTotalOrder, IsEquivalence}
use Rattle.std.specs.List.{AllByRecursion, cons_option, dedup, filter_map}
use Rattle.std.specs.List.Retain.{IsFiltered, DiffersFromLast}
use Rattle.std.specs.List.Sorted.{IsPermutation, IsSorted, IsStrictlySortedBy}
use Rattle.std.specs.Ordering.{eq_by_cmp}
use Rattle.std.proofs.lemmas.List.Filters.{dedup_is}
use Rattle.std.proofs.lemmas.List.Kept.{Contains-dedup, Contains-from_dedup, IsStrictlySortedBy-dedup}
use Rattle.std.proofs.lemmas.List.Sorted.{Contains-permutation, IsPermutation-sym}
use Rattle.lab_base.specs.Lists.{Has, Apart}
use Rattle.lab_base.proofs.Members.{Has-place, Has-get_or}
use Rattle.plant.specs.Readings.{IsListOf}

has : {X : Type 0} (xs : List X) (x : X) → Contains xs x → Has xs x
has xs x (k, lt, e) = subst (λ v. Has xs v) e (Has-get_or xs k x lt)

every : {X : Type 0} (P : X → Type 0) (xs : List X) → AllByRecursion P xs → (x : X) → Has xs x → P x
every P [] all x h = absurd h
every P (y ∷ ys) all x (inl is) = subst P is all.0
every P (y ∷ ys) all x (inr h) = every P ys all.1 x h

module _ {X : Type 0} {R : X → X → Ordering} (total : IsTotalOrder R) {E : X → X → Bool} (equiv : IsEquivalence E) (ties : (x y : X) → E x y ≡ eq_by_cmp R x y) (same : (x y : X) → E x y ≡ true → x ≡ y)
    (before : X → X → Type 0) (less : (x y : X) → R x y ≡ Less → before x y) where
  apart : (xs : List X) → IsStrictlySortedBy R xs → Apart before xs
  unfolding IsStrictlySortedBy
  apart [] h = tt
  apart (x ∷ xs) h = ((λ y g. less x y (every (λ z. R x z ≡ Less) xs h.0 y g)), apart xs h.1)

  -- a list that has all that are so, sorted and freed of repeats
  pub list_of : (so : X → Type 0) (raw sorted left : List X) → IsPermutation raw sorted → IsSorted R sorted → IsFiltered (DiffersFromLast E) [] sorted left → ((x : X) → Has raw x ↔ so x) → IsListOf before so left
  list_of so raw sorted left permuted in_order filtered exact =
      let is : left ≡ dedup E sorted = dedup_is E sorted left filtered in
      record {
        rising = apart left (subst (IsStrictlySortedBy R) (sym is) (IsStrictlySortedBy-dedup total ties sorted in_order));
        exact = λ x. (
          (λ h. (exact x).0 (has raw x (Contains-permutation sorted raw x (IsPermutation-sym raw sorted permuted) (Contains-from_dedup E sorted x (Has-place (dedup E sorted) x x (subst (λ (l : List X). Has l x) is h)))))),
          (λ s. subst (λ (l : List X). Has l x) (sym is) (has (dedup E sorted) x (Contains-dedup equiv same sorted x (Contains-permutation raw sorted x permuted (Has-place raw x x ((exact x).1 s)))))),
        );
      }

-- what is given of the elements
pub given_has : {X Y : Type 0} (h : X → Option Y) (xs : List X) (y : Y) → Has (filter_map h xs) y → (x : X) × Has xs x × (h x ≡ Some y)
given_has h [] y g = absurd g
given_has {X} {Y} h (x ∷ xs) y g = by (h x) refl (given_has h xs y) g
  where
    by : (o : Option Y) → h x ≡ o → (Has (filter_map h xs) y → (z : X) × Has xs z × (h z ≡ Some y)) → Has (cons_option o (filter_map h xs)) y → (z : X) × Has (x ∷ xs) z × (h z ≡ Some y)
    by None is rest g = let k = rest g in (k.0, inr k.1, k.2)
    by (Some v) is rest (inl e) = (x, inl refl, is ∙ ap Some e)
    by (Some v) is rest (inr g) = let k = rest g in (k.0, inr k.1, k.2)

pub has_given : {X Y : Type 0} (h : X → Option Y) (xs : List X) (x : X) (y : Y) → Has xs x → h x ≡ Some y → Has (filter_map h xs) y
has_given h [] x y g is = absurd g
has_given {X} {Y} h (z ∷ xs) x y (inl e) is = subst (λ (o : Option Y). Has (cons_option o (filter_map h xs)) y) (sym (ap h e ∙ is)) (inl refl)
has_given {X} {Y} h (z ∷ xs) x y (inr g) is = by (h z) (has_given h xs x y g is)
  where
    by : (o : Option Y) → Has (filter_map h xs) y → Has (cons_option o (filter_map h xs)) y
    by None rest = rest
    by (Some v) rest = inr rest
