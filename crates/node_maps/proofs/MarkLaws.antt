-- Numbers of what is marked.
use Rattle.std.proofs.Common.{◌≡◌, ◌<◌, ◌+◌, ◌∙◌, ◌++◌, ◌∷◌, inl, inr, [], ℕ, zero, suc, Bool, true, false, cond, List, All, Contains, filter, length, map, get_or, refl, sym, ap, subst, arith}
use Rattle.std.proofs.lemmas.Bool.{cases_lt}
use Rattle.std.proofs.lemmas.List.{append-nil, get_or-map}
use Rattle.std.proofs.lemmas.List.Elements.{All-filter, Contains-append_left, Contains-append_right, filter-append}
use Rattle.phys_lab.specs.Forests.{numbers}
use Rattle.phys_lab.proofs.ForestLaws.{length-numbers, number_at}
use Rattle.lab_model.specs.Shapes.{Place}
use Rattle.lab_model.specs.Rules.{no_place}
use Rattle.node_maps.specs.Kinds.{by_kind, listed, places_of, AreNumbers}
use Rattle.node_maps.specs.Marked.{mark_of, marked_numbers, marked_of, marks_of}

-- numbers of places have the marks of the places
marks_of_numbers : (nodes : List Bool) (places : List Place) (own : List ℕ) → All (λ k. k < length places) own
    → map (mark_of (marks_of nodes places)) own ≡ marks_of nodes (places_of places own)
marks_of_numbers nodes places [] are = refl
marks_of_numbers nodes places (k ∷ own) are = λ i.
    get_or-map (λ (p : Place). get_or nodes p.0.0 true) places k no_place true (are 0 0 (omega arith)) i
    ∷ marks_of_numbers nodes places own (λ j d lt. are (suc j) d (omega (arith, lt))) i

pub marked_of_lists : (nodes : List Bool) (places : List Place) (lists : List (List ℕ)) → AreNumbers places lists
    → map (λ own. marked_numbers (map (mark_of (marks_of nodes places)) own)) lists ≡ map (marked_of nodes) (listed places lists)
marked_of_lists nodes places [] are = refl
marked_of_lists nodes places (own ∷ lists) are = λ i.
    marked_numbers (marks_of_numbers nodes places own (are 0 [] (omega arith)) i)
    ∷ marked_of_lists nodes places lists (λ j d lt. are (suc j) d (omega (arith, lt))) i

-- what is marked in a list of these, or in none
marked_or : (nodes : List Bool) (lists : List (List Place)) (k : ℕ) → get_or (map (marked_of nodes) lists) k [] ≡ marked_of nodes (get_or lists k [])
marked_or nodes [] k = refl
marked_or nodes (l ∷ lists) zero = refl
marked_or nodes (l ∷ lists) (suc k) = marked_or nodes lists k

pub marked_by_kind : (nodes : List Bool) (lists : List (List Place)) (kinds : List ℕ)
    → by_kind (map (marked_of nodes) lists) kinds ≡ map (marked_of nodes) (by_kind lists kinds)
marked_by_kind nodes lists [] = refl
marked_by_kind nodes lists (k ∷ kinds) = λ i. marked_or nodes lists k i ∷ marked_by_kind nodes lists kinds i

-- the numbers below the next one that pass
passed_next : (p : ℕ → Bool) (n : ℕ) → filter p (numbers (n + 1)) ≡ filter p (numbers n) ++ cond (p n) (n ∷ []) []
passed_next p n =
    let next : n + 1 ≡ suc n = omega arith in
    ap (λ (k : ℕ). filter p (numbers k)) next ∙ filter-append p (numbers n) (n ∷ [])

pub passed_one : (p : ℕ → Bool) (n : ℕ) → p n ≡ true → filter p (numbers (n + 1)) ≡ filter p (numbers n) ++ n ∷ []
passed_one p n is = passed_next p n ∙ ap (λ (b : Bool). filter p (numbers n) ++ cond b (n ∷ []) []) is

pub passed_none : (p : ℕ → Bool) (n : ℕ) → p n ≡ false → filter p (numbers (n + 1)) ≡ filter p (numbers n)
passed_none p n is = passed_next p n ∙ ap (λ (b : Bool). filter p (numbers n) ++ cond b (n ∷ []) []) is ∙ append-nil (filter p (numbers n))

-- a number that passes is among those that do
passed_has : (p : ℕ → Bool) (n k : ℕ) → k < n → p k ≡ true → Contains (filter p (numbers n)) k
passed_has p zero k lt is = absurd (omega (arith, lt))
passed_has p (suc n) k lt is = subst (λ (l : List ℕ). Contains l k) (sym (filter-append p (numbers n) (n ∷ []))) (elim (cases_lt k n) [
  | inl below ↦ Contains-append_left (filter p (numbers n)) (filter p (n ∷ [])) k (passed_has p n k below is)
  | inr above ↦
      let same : n ≡ k = omega (arith, lt, above) in
      let here : p n ≡ true = ap p same ∙ is in
      Contains-append_right (filter p (numbers n)) (filter p (n ∷ [])) k (subst (λ (b : Bool). Contains (cond b (n ∷ []) []) k) (sym here) (0, omega arith, same))
])

-- the marked numbers are numbers of marks
pub marked_within : (marks : List Bool) → All (λ k. k < length marks) (marked_numbers marks)
marked_within marks =
    let n = length marks in
    All-filter (mark_of marks) (λ (k : ℕ). k < n) (numbers n) (λ i d lt.
    let below : i < n = omega (arith, lt, length-numbers n) in
    subst (λ (k : ℕ). k < n) (sym (number_at n i d below)) below)

-- a number that isn't among the marked ones is not marked
pub unmarked : (marks : List Bool) (k : ℕ) → k < length marks → (Contains (marked_numbers marks) k → ⊥) → get_or marks k true ≡ false
unmarked marks k lt none = by (get_or marks k true) refl
  where
    by : (b : Bool) → get_or marks k true ≡ b → get_or marks k true ≡ false
    by true is = absurd (none (passed_has (mark_of marks) (length marks) k lt is))
    by false off = off
