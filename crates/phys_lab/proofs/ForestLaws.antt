-- Two switches have one class exactly where trunks join them.
use Rattle.std.proofs.Common.{◌≡◌, inl, inr, ℕ, zero, suc, ◌+◌, ◌<◌, Bool, true, false, cond, eqb, ◌&&◌, ◌||◌, List, [], ◌∷◌, ◌++◌, length, get_or, fold, slice_index, refl, sym, ap, ◌∙◌, arith, length-append, append_assoc}
use Rattle.std.proofs.lemmas.List.{append-nil, length-map, map-append}
use Rattle.std.specs.List.{AllByRecursion}
use Rattle.std.proofs.lemmas.Bool.{cases_lt, ne_eqb}
use Rattle.std.proofs.lemmas.Bool.Decides.{nat_tests}
use Rattle.std.proofs.lemmas.List.{get_or-map, get_or_append_left, get_or-append-add}
use Rattle.lab_base.specs.Lists.{Has}
use Rattle.phys_lab.specs.Sides.{joined}
use Rattle.phys_lab.specs.Forests.{numbers, relabelled, merged, classes_of, IsWithin}
use Rattle.phys_lab.specs.declared.parts.Trunk.{Trunk}
use Rattle.lab_base.proofs.Members.{Has-append, Has-left, Has-right}
use Rattle.lab_base.proofs.Tests.{same_tests}
use Rattle.phys_lab.proofs.SideLaws.{path_from_joined, joined_from_path}

pub length-numbers : (n : ℕ) → length (numbers n) ≡ n
length-numbers zero = refl
length-numbers (suc n) = omega (arith, length-append (numbers n) (n ∷ []), length-numbers n)

pub number_at : (n i : ℕ) (d : ℕ) → i < n → get_or (numbers n) i d ≡ i
number_at zero i d lt = absurd (omega arith)
number_at (suc n) i d lt = elim (cases_lt i n) [
  | inl below ↦ get_or_append_left (numbers n) (n ∷ []) d i (omega (arith, length-numbers n)) ∙ number_at n i d below
  | inr above ↦
      let last : n ≡ i = omega arith in
      let at : i ≡ length (numbers n) + 0 = omega (arith, length-numbers n) in
      ap (λ (k : ℕ). get_or (numbers n ++ n ∷ []) k d) at ∙ get_or-append-add (numbers n) (n ∷ []) 0 d ∙ last
]

-- more trunks join more
pub joined_within : (xs ys : List Trunk) (a b : ℕ) → ((t : Trunk) → Has xs t → Has ys t) → joined xs a b ≡ true → joined ys a b ≡ true
joined_within xs ys a b more h = let p = path_from_joined xs a b h in joined_from_path ys p.path a b (λ t g. more t (p.of_these t g)) p.leads

-- a trunk at the end joins as one at the front
pub joined-push : (trunks : List Trunk) (t : Trunk) (a b : ℕ) → joined (trunks ++ t ∷ []) a b ≡ joined (t ∷ trunks) a b
joined-push trunks t a b =
    let front : (u : Trunk) → Has (trunks ++ t ∷ []) u → Has (t ∷ trunks) u = λ u h. elim (Has-append trunks (t ∷ []) u h) [ inl x ↦ inr x | inr y ↦ elim y [ inl e ↦ inl e | inr n ↦ absurd n ] ] in
    let back : (u : Trunk) → Has (t ∷ trunks) u → Has (trunks ++ t ∷ []) u = λ u h. elim h [ inl e ↦ Has-right trunks (t ∷ []) u (inl e) | inr x ↦ Has-left trunks (t ∷ []) u x ] in
    same_tests _ _ (joined_within (trunks ++ t ∷ []) (t ∷ trunks) a b front) (joined_within (t ∷ trunks) (trunks ++ t ∷ []) a b back)

-- two classes after one was put in the place of another
merged_tests : (x y from to : ℕ) → eqb (cond (eqb x from) to x) (cond (eqb y from) to y) ≡ (eqb x y || (eqb x from && eqb to y) || (eqb x to && eqb from y))
merged_tests x y from to = same_tests _ _ (λ h. grind (arith, nat_tests)) (λ h. grind (arith, nat_tests))

-- the classes are those of the trunks
pub record IsClasses (n : ℕ) (classes : List ℕ) (trunks : List Trunk) : Type 0 where
  pub whole : length classes ≡ n
  pub low : (a : ℕ) → a < n → slice_index classes a < n
  pub same : (a b : ℕ) → a < n → b < n → eqb (slice_index classes a) (slice_index classes b) ≡ joined trunks a b

pub lone_classes_are : (n : ℕ) → IsClasses n (numbers n) []
lone_classes_are n = record {
  whole = length-numbers n;
  low = λ a lt. rw (number_at n a 0 lt) lt;
  same = λ a b x y. rw (number_at n a 0 x, number_at n b 0 y) refl;
}

pub merged_classes_are : (n : ℕ) (classes : List ℕ) (trunks : List Trunk) (t : Trunk) → IsWithin n t → IsClasses n classes trunks → IsClasses n (merged classes t) (trunks ++ t ∷ [])
merged_classes_are n classes trunks t within is =
    let from = slice_index classes t.first.0.0 in
    let to = slice_index classes t.second.0.0 in
    let class_at : (a : ℕ) → a < n → slice_index (merged classes t) a ≡ cond (eqb (slice_index classes a) from) to (slice_index classes a) =
    λ a lt. get_or-map (λ class. cond (eqb class from) to class) classes a 0 0 (omega (arith, is.whole)) in
    record {
      whole = length-map classes _ ∙ is.whole;
      low = λ a lt. rw (class_at a lt) (low_of (eqb (slice_index classes a) from) to (slice_index classes a) (is.low t.second.0.0 within.1) (is.low a lt));
      same = λ a b x y.
          ap (λ (c : ℕ). eqb c (slice_index (merged classes t) b)) (class_at a x) ∙ ap (λ (c : ℕ). eqb (cond (eqb (slice_index classes a) from) to (slice_index classes a)) c) (class_at b y)
          ∙ merged_tests (slice_index classes a) (slice_index classes b) from to
          ∙ three _ _ _ _ _ _ _ _ _ _ (is.same a b x y) (is.same a t.first.0.0 x within.0) (is.same t.second.0.0 b within.1 y) (is.same a t.second.0.0 x within.1) (is.same t.first.0.0 b within.0 y)
          ∙ sym (joined-push trunks t a b);
    }
  where
    low_of : (b : Bool) (x y : ℕ) → x < n → y < n → cond b x y < n
    low_of true x y p q = p
    low_of false x y p q = q

    three : (p q r s u p' q' r' s' u' : Bool) → p ≡ p' → q ≡ q' → r ≡ r' → s ≡ s' → u ≡ u' → (p || (q && r) || (s && u)) ≡ (p' || (q' && r') || (s' && u'))
    three p q r s u p' q' r' s' u' a b c d e = λ i. (a i) || ((b i) && (c i)) || ((d i) && (e i))

pub more_classes_are : (n : ℕ) (classes : List ℕ) (front trunks : List Trunk) → AllByRecursion (IsWithin n) trunks → IsClasses n classes front → IsClasses n (fold merged classes trunks) (front ++ trunks)
more_classes_are n classes front [] within is = rw append-nil is
more_classes_are n classes front (t ∷ trunks) within is =
    let rest : IsClasses n (fold merged (merged classes t) trunks) ((front ++ t ∷ []) ++ trunks) = more_classes_are n (merged classes t) (front ++ t ∷ []) trunks within.1 (merged_classes_are n classes front t within.0 is) in
    rw append_assoc at rest

-- WHAT CLASSES ARE FOR
pub classes_are : (n : ℕ) (trunks : List Trunk) → AllByRecursion (IsWithin n) trunks → IsClasses n (classes_of n trunks) trunks
classes_are n trunks within = more_classes_are n (numbers n) [] trunks within (lone_classes_are n)

-- a further switch has a class of its own
wider : (n : ℕ) (classes : List ℕ) (trunks : List Trunk) → AllByRecursion (IsWithin n) trunks → length classes ≡ n → ((a : ℕ) → a < n → slice_index classes a < n) → fold merged (classes ++ n ∷ []) trunks ≡ fold merged classes trunks ++ n ∷ []
wider n classes [] within whole low = refl
wider n classes (t ∷ trunks) within whole low =
    let from = slice_index classes t.first.0.0 in
    let to = slice_index classes t.second.0.0 in
    let one : slice_index (classes ++ n ∷ []) t.first.0.0 ≡ from = get_or_append_left classes (n ∷ []) 0 t.first.0.0 (omega (arith, within.0.0)) in
    let two : slice_index (classes ++ n ∷ []) t.second.0.0 ≡ to = get_or_append_left classes (n ∷ []) 0 t.second.0.0 (omega (arith, within.0.1)) in
    let fresh : eqb n from ≡ false = ne_eqb n from (omega (arith, low t.first.0.0 within.0.0)) in
    let last : relabelled from to (classes ++ n ∷ []) ≡ relabelled from to classes ++ n ∷ [] = map-append (λ class. cond (eqb class from) to class) classes (n ∷ []) ∙ rw fresh refl in
    let both : merged (classes ++ n ∷ []) t ≡ relabelled from to (classes ++ n ∷ []) = λ i. relabelled (one i) (two i) (classes ++ n ∷ []) in
    let step : merged (classes ++ n ∷ []) t ≡ merged classes t ++ n ∷ [] = both ∙ last in
    let is_low : (a : ℕ) → a < n → slice_index (merged classes t) a < n = λ a lt.
    rw (get_or-map (λ class. cond (eqb class from) to class) classes a 0 0 (omega arith)) (low_of (eqb (slice_index classes a) from) to (slice_index classes a) (low t.second.0.0 within.0.1) (low a lt)) in
    ap (λ (c : List ℕ). fold merged c trunks) step ∙ wider n (merged classes t) trunks within.1 (length-map classes _ ∙ whole) is_low
  where
    low_of : (b : Bool) (x y : ℕ) → x < n → y < n → cond b x y < n
    low_of true x y p q = p
    low_of false x y p q = q

pub classes-push : (n : ℕ) (trunks : List Trunk) → AllByRecursion (IsWithin n) trunks → classes_of (n + 1) trunks ≡ classes_of n trunks ++ n ∷ []
classes-push n trunks within =
    let next : n + 1 ≡ suc n = omega arith in
    let more : classes_of (n + 1) trunks ≡ classes_of (suc n) trunks = ap (λ (k : ℕ). classes_of k trunks) next in
    more ∙ wider n (numbers n) trunks within (length-numbers n) (λ a lt. rw (number_at n a 0 lt) lt)

pub length-merges : (classes : List ℕ) (trunks : List Trunk) → length (fold merged classes trunks) ≡ length classes
length-merges classes [] = refl
length-merges classes (t ∷ trunks) = length-merges (merged classes t) trunks ∙ length-map classes _
