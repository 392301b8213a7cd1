-- A lab has at most as many trunks as switches, since they form a forest.
use Rattle.std.proofs.Common.{◌≡◌, ◌≢◌, ◌⊎◌, inl, inr, ℕ, zero, suc, ◌+◌, ◌<◌, ◌≤◌, Bool, true, false, cond, eqb, List, [], ◌∷◌, ◌++◌, length, remove, get_or, refl, sym, ap, subst, ◌∙◌, arith, append_assoc}
use Rattle.std.specs.Prelude.{slice_index}
use Rattle.std.specs.List.{list_any, AllByRecursion}
use Rattle.std.proofs.lemmas.Bool.{eqb-true, eq-eqb, or_cases, or_left, or_right, cases_lt, ne_eqb}
use Rattle.std.proofs.lemmas.List.{length-append}
use Rattle.std.proofs.lemmas.List.Elements.{recursion_from_All}
use Rattle.lab_base.proofs.Members.{Has-left}
use Rattle.phys_lab.specs.Labs.{Lab}
use Rattle.phys_lab.specs.Kept.{IsLab}
use Rattle.phys_lab.specs.Sides.{joined, trunk_at, IsForest}
use Rattle.phys_lab.specs.Forests.{IsWithin, numbers, merged, relabelled}
use Rattle.phys_lab.specs.declared.parts.Trunk.{Trunk}
use Rattle.phys_lab.proofs.ForestLaws.{IsClasses, joined_within, lone_classes_are, merged_classes_are}
use Rattle.phys_lab.proofs.ForestKept.{remove_next}

-- how many of the numbers below n pass a test
abbrev count : ℕ → (ℕ → Bool) → ℕ
count zero p = 0
count (suc n) p = cond (p n) 1 0 + count n p

count_le : (n : ℕ) (p : ℕ → Bool) → count n p ≤ n
count_le zero p = omega arith
count_le (suc n) p = by (p n) (count_le n p)
  where
    by : (b : Bool) → count n p ≤ n → cond b 1 0 + count n p ≤ suc n
    by true h = omega arith
    by false h = omega arith

one_each : (a b : Bool) → (a ≡ true → b ≡ true) → cond a 1 0 ≤ cond b 1 0
one_each true true h = omega arith
one_each true false h = absurd (let wrong = h refl in cc wrong)
one_each false true h = omega arith
one_each false false h = omega arith

count_more : (n : ℕ) (p q : ℕ → Bool) → ((v : ℕ) → p v ≡ true → q v ≡ true) → count n p ≤ count n q
count_more zero p q h = omega arith
count_more (suc n) p q h = omega (arith, one_each (p n) (q n) (h n), count_more n p q h)

-- one number fewer
count_less : (n f : ℕ) (p q : ℕ → Bool) → ((v : ℕ) → p v ≡ true → q v ≡ true) → f < n → p f ≡ false → q f ≡ true → count n p + 1 ≤ count n q
count_less zero f p q h lt missing there = absurd (omega arith)
count_less (suc n) f p q h lt missing there = elim (cases_lt f n) [
  | inl below ↦ omega (arith, one_each (p n) (q n) (h n), count_less n f p q h below missing there)
  | inr above ↦
      let same : f ≡ n = omega arith in
      let none : ◌≡◌ {A = ℕ} (cond (p n) 1 0) 0 = ap (λ (b : Bool). cond b 1 0) (ap p (sym same) ∙ missing) in
      let one : ◌≡◌ {A = ℕ} (cond (q n) 1 0) 1 = ap (λ (b : Bool). cond b 1 0) (ap q (sym same) ∙ there) in
      omega (arith, none, one, count_more n p q h)
]

-- the class is in use
abbrev in_use : List ℕ → ℕ → Bool
in_use classes v = list_any (λ c. eqb c v) classes

in_use_at : (classes : List ℕ) (i d : ℕ) → i < length classes → in_use classes (get_or classes i d) ≡ true
in_use_at [] i d lt = absurd (omega arith)
in_use_at (c ∷ classes) zero d lt = or_left _ _ (eq-eqb c c refl)
in_use_at (c ∷ classes) (suc i) d lt = or_right _ _ (in_use_at classes i d (omega arith))

-- a class that is in use after a relabelling was in use, and the old label is not
module _ (from to : ℕ) (differ : from ≢ to) where
  label_kept : (c v : ℕ) → eqb (cond (eqb c from) to c) v ≡ true → (eqb c v ≡ true) ⊎ (to ≡ v)
  label_kept c v h = by (eqb c from) h
    where
      by : (b : Bool) → eqb (cond b to c) v ≡ true → (eqb c v ≡ true) ⊎ (to ≡ v)
      by true h = inr (eqb-true to v h)
      by false h = inl h

  label_gone : (c : ℕ) → eqb (cond (eqb c from) to c) from ≡ false
  label_gone c = by (eqb c from) refl
    where
      by : (b : Bool) → eqb c from ≡ b → eqb (cond b to c) from ≡ false
      by true is = ne_eqb to from (λ e. differ (sym e))
      by false is = is

  in_use_before : (classes : List ℕ) (v : ℕ) → in_use classes to ≡ true → in_use (relabelled from to classes) v ≡ true → in_use classes v ≡ true
  in_use_before classes v used h = elim (still classes h) [ inl was ↦ was | inr is ↦ subst (λ x. in_use classes x ≡ true) is used ]
    where
      still : (cs : List ℕ) → in_use (relabelled from to cs) v ≡ true → (in_use cs v ≡ true) ⊎ (to ≡ v)
      still [] h = absurd (cc h)
      still (c ∷ cs) h = elim (or_cases _ _ h) [
        | inl here ↦ elim (label_kept c v here) [ inl was ↦ inl (or_left _ _ was) | inr is ↦ inr is ]
        | inr later ↦ elim (still cs later) [ inl was ↦ inl (or_right _ _ was) | inr is ↦ inr is ]
      ]

  not_in_use : (classes : List ℕ) → in_use (relabelled from to classes) from ≡ false
  not_in_use [] = refl
  not_in_use (c ∷ cs) = rw (label_gone c) (not_in_use cs)

-- each of the trunks joins switches that those before it leave apart
abbrev IsOpen : List Trunk → List Trunk → Type 0
IsOpen front [] = Unit {0}
IsOpen front (t ∷ trunks) = (joined front t.first.0.0 t.second.0.0 ≡ false) × IsOpen (front ++ t ∷ []) trunks

fewer : (n : ℕ) (classes : List ℕ) (front trunks : List Trunk) → AllByRecursion (IsWithin n) trunks → IsClasses n classes front → IsOpen front trunks
    → length trunks ≤ count n (in_use classes)
fewer n classes front [] within is apart = omega arith
fewer n classes front (t ∷ trunks) within is apart =
    let from = slice_index classes t.first.0.0 in
    let to = slice_index classes t.second.0.0 in
    let test : eqb from to ≡ false = is.same t.first.0.0 t.second.0.0 within.0.0 within.0.1 ∙ apart.0 in
    let differ : from ≢ to = λ e. absurd (let same = eq-eqb from to e in cc (same, test)) in
    let used : in_use classes to ≡ true = in_use_at classes t.second.0.0 0 (omega (arith, is.whole, within.0.1)) in
    let was : in_use classes from ≡ true = in_use_at classes t.first.0.0 0 (omega (arith, is.whole, within.0.0)) in
    let less = count_less n from (in_use (merged classes t)) (in_use classes) (λ v h. in_use_before from to differ classes v used h) (is.low t.first.0.0 within.0.0) (not_in_use from to differ classes) was in
    let rest = fewer n (merged classes t) (front ++ t ∷ []) trunks within.1 (merged_classes_are n classes front t within.0 is) apart.1 in
    omega (arith, less, rest)

-- the trunks of a forest are open one after another
opened : (all front trunks : List Trunk) → all ≡ front ++ trunks → IsForest all → IsOpen front trunks
opened all front [] is forest = tt
opened all front (t ∷ trunks) is forest =
    let n = length front in
    let more = length-append front (t ∷ trunks) in
    let lt : n < length all = omega (arith, more, ap length is) in
    let here : trunk_at all n ≡ t = ap (λ (l : List Trunk). trunk_at l n) is ∙ at_seam front t trunks in
    let others : remove all n ≡ front ++ trunks = ap (λ (l : List Trunk). remove l n) is ∙ remove_next front trunks t in
    let apart : joined (front ++ trunks) t.first.0.0 t.second.0.0 ≡ false = sym (λ i. joined (others i) (here i).first.0.0 (here i).second.0.0) ∙ forest n lt in (
      still_apart (joined front t.first.0.0 t.second.0.0) refl apart,
      opened all (front ++ t ∷ []) trunks (is ∙ sym (append_assoc front (t ∷ []) trunks)) forest,
    )
  where
    at_seam : (xs : List Trunk) (t : Trunk) (ys : List Trunk) → trunk_at (xs ++ t ∷ ys) (length xs) ≡ t
    at_seam [] t ys = refl
    at_seam (x ∷ xs) t ys = at_seam xs t ys

    still_apart : (b : Bool) → joined front t.first.0.0 t.second.0.0 ≡ b → joined (front ++ trunks) t.first.0.0 t.second.0.0 ≡ false → joined front t.first.0.0 t.second.0.0 ≡ false
    still_apart false is apart = is
    still_apart true is apart = absurd (let wide = joined_within front (front ++ trunks) t.first.0.0 t.second.0.0 (λ u h. Has-left front trunks u h) is in cc (wide, apart))

-- A LAB HAS AT MOST 64 TRUNKS
pub few_trunks : (lab : Lab) → IsLab lab → length lab.trunks ≤ 64
few_trunks lab is =
    let n = length lab.switches in
    let within = recursion_from_All (IsWithin n) lab.trunks is.linked.trunks in
    let open_all = opened lab.trunks [] lab.trunks refl is.forest in
    omega (arith, fewer n (numbers n) [] lab.trunks within (lone_classes_are n) open_all, count_le n (in_use (numbers n)), is.few_switches)
