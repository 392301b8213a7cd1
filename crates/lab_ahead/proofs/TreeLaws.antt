-- A tree, one step larger.
use Rattle.std.proofs.Common.{◌≡◌, ◌≢◌, ◌⊎◌, ◌<◌, ◌≤◌, ◌+◌, ℕ, zero, suc, Bool, true, false, cond, List, [], ◌∷◌, ◌++◌, length, get_or, set, count_by, Option, Some, refl, sym, ap, ◌∙◌, subst, inl, inr, arith, length-append, get_or-set_same, get_or-set_other}
use Rattle.std.proofs.Math.ListN.{get_or-append, length-set}
use Rattle.std.proofs.Math.Seq.{get_or-append_seam}
use Rattle.std.proofs.lemmas.Bool.{cases_eq, cases_lt, false≢true}
use Rattle.std.proofs.lemmas.List.Sums.{sum_by-set, count_by-le-length}
use Rattle.lab_ahead.specs.declared.tree.Step.{Step}
use Rattle.lab_ahead.proofs.Counting.{one_if}
use Rattle.lab_ahead.specs.SearchTrees.{AreSteps, Extends, IsClosedAt, IsStep, IsTaken, Reached, owner_at, serves, step_at}

-- a mark, and an owner, stand within their lists
pub marked_within : (seen : List Bool) (n : ℕ) → get_or seen n false ≡ true → n < length seen
marked_within [] n e = absurd (false≢true e)
marked_within (mark ∷ seen) zero e = omega arith
marked_within (mark ∷ seen) (suc n) e = omega (arith, marked_within seen n e)

pub owned_within : (owners : List (Option ℕ)) (i n : ℕ) → owner_at owners i ≡ Some n → i < length owners
owned_within [] i n e = absurd (cc e)
owned_within (o ∷ owners) zero n e = omega arith
owned_within (o ∷ owners) (suc i) n e = omega (arith, owned_within owners i n e)

pub reached_within : {table : List (List Bool)} {owners : List (Option ℕ)} {steps : List Step} {seen : List Bool} (n : ℕ) → AreSteps table owners steps seen → Reached steps n → n < length table
reached_within {seen = seen} n are r = omega (arith, marked_within seen n (are.marked n r), are.whole)

pub few_steps : {table : List (List Bool)} {owners : List (Option ℕ)} {steps : List Step} {seen : List Bool} → AreSteps table owners steps seen → length steps ≤ length table
few_steps {seen = seen} are = omega (arith, count_by-le-length (λ (mark : Bool). mark) seen, are.counted, are.whole)

-- LARGER TREES

pub longer_alike : (steps more : List Step) → Extends steps (steps ++ more)
longer_alike steps more = record {
  longer = omega (arith, length-append steps more);
  same = λ k lt. get_or-append steps more (record { need = 0; position = 0; parent = 0 }) k lt;
}

pub same_steps : (steps : List Step) → Extends steps steps
same_steps steps = record { longer = omega arith; same = λ k lt. refl }

pub still_alike : {a b c : List Step} → Extends a b → Extends b c → Extends a c
still_alike ab bc = record {
  longer = omega (arith, ab.longer, bc.longer);
  same = λ k lt. bc.same k (omega (arith, ab.longer)) ∙ ab.same k lt;
}

pub still_reached : {old new : List Step} (n : ℕ) → Extends old new → Reached old n → Reached new n
still_reached n e (k, lt, is) = (k, omega (arith, e.longer), ap (λ (s : Step). s.need) (e.same k lt) ∙ is)

pub still_taken : (owners : List (Option ℕ)) {old new : List Step} (i : ℕ) → Extends old new → IsTaken owners old i → IsTaken owners new i
still_taken owners i e (n, owned, reached) = (n, owned, still_reached n e reached)

pub still_closed : (table : List (List Bool)) (owners : List (Option ℕ)) {old new : List Step} (k : ℕ) → Extends old new → k < length old → IsClosedAt table owners old k → IsClosedAt table owners new k
still_closed table owners k e lt closed i can = still_taken owners i e (closed i (subst (λ (s : Step). serves table s.need i ≡ true) (e.same k lt) can))

still_step : {table : List (List Bool)} {owners : List (Option ℕ)} {old new : List Step} (k : ℕ) → Extends old new → k < length old → IsStep table owners old k → IsStep table owners new k
still_step {table} {owners} {old} {new} k e lt is =
    let same = e.same k lt in
    let parent : step_at new (step_at old k).parent ≡ step_at old (step_at old k).parent = e.same (step_at old k).parent (omega (arith, is.back)) in
    record {
      back = subst (λ (s : Step). s.parent < k) (sym same) is.back;
      owned = subst (λ (s : Step). owner_at owners s.position ≡ Some s.need) (sym same) is.owned;
      served = subst (λ (s : Step). serves table (step_at new s.parent).need s.position ≡ true) (sym same)
          (subst (λ (p : Step). serves table p.need (step_at old k).position ≡ true) (sym parent) is.served);
    }

-- ONE STEP MORE

module _ (table : List (List Bool)) (owners : List (Option ℕ)) (steps : List Step) (seen : List Bool) (step : Step) (are : AreSteps table owners steps seen) (back : step.parent < length steps)
    (owned : owner_at owners step.position ≡ Some step.need) (inside : step.need < length table) (served : serves table (step_at steps step.parent).need step.position ≡ true)
    (fresh : get_or seen step.need false ≡ false) where
  longer : Extends steps (steps ++ step ∷ [])
  longer = longer_alike steps (step ∷ [])

  last : step_at (steps ++ step ∷ []) (length steps) ≡ step
  last = get_or-append_seam steps step [] (record { need = 0; position = 0; parent = 0 })

  one_longer : length (steps ++ step ∷ []) ≡ length steps + 1
  one_longer = length-append steps (step ∷ [])

  within : step.need < length seen
  within = omega (arith, are.whole)

  cases_last : (k : ℕ) → k < length (steps ++ step ∷ []) → (k < length steps) ⊎ (k ≡ length steps)
  cases_last k lt = elim (cases_lt k (length steps)) [ inl h ↦ inl h | inr h ↦ inr (omega (arith, one_longer)) ]

  is_last : IsStep table owners (steps ++ step ∷ []) (length steps)
  is_last = record {
    back = subst (λ (s : Step). s.parent < length steps) (sym last) back;
    owned = subst (λ (s : Step). owner_at owners s.position ≡ Some s.need) (sym last) owned;
    served = subst (λ (s : Step). serves table (step_at (steps ++ step ∷ []) s.parent).need s.position ≡ true) (sym last)
        (subst (λ (p : Step). serves table p.need step.position ≡ true) (sym (longer.same step.parent back)) served);
  }

  each : (k : ℕ) → 0 < k → k < length (steps ++ step ∷ []) → IsStep table owners (steps ++ step ∷ []) k
  each k some lt = elim (cases_last k lt) [
    | inl h ↦ still_step k longer h (are.each k some h)
    | inr e ↦ subst (λ (n : ℕ). IsStep table owners (steps ++ step ∷ []) n) (sym e) is_last
  ]

  not_before : (j : ℕ) → j < length steps → (step_at steps j).need ≢ step.need
  not_before j lt e = false≢true (sym fresh ∙ are.marked step.need (j, lt, e))

  differ : (j k : ℕ) → j < k → k < length (steps ++ step ∷ []) → (step_at (steps ++ step ∷ []) j).need ≢ (step_at (steps ++ step ∷ []) k).need
  differ j k jk lt same = elim (cases_last k lt) [
    | inl h ↦ are.differ j k jk h (sym (ap (λ (s : Step). s.need) (longer.same j (omega arith))) ∙ same ∙ ap (λ (s : Step). s.need) (longer.same k h))
    | inr e ↦ not_before j (omega arith) (sym (ap (λ (s : Step). s.need) (longer.same j (omega arith))) ∙ same ∙ ap (λ (n : ℕ). (step_at (steps ++ step ∷ []) n).need) e ∙ ap (λ (s : Step). s.need) last)
  ]

  counted : count_by (λ mark. mark) (set seen step.need true) ≡ length (steps ++ step ∷ [])
  counted =
      let sums = sum_by-set (λ (mark : Bool). cond mark 1 0) seen step.need true false within in
      let none : one_if (get_or seen step.need false) ≡ 0 = ap one_if fresh in
      omega (arith, sums, none, are.counted, one_longer)

  marks : (n : ℕ) → Reached (steps ++ step ∷ []) n → get_or (set seen step.need true) n false ≡ true
  marks n (k, lt, is) = elim (cases_eq n step.need) [
    | inl e ↦ subst (λ (m : ℕ). get_or (set seen step.need true) m false ≡ true) (sym e) (get_or-set_same seen step.need true false within)
    | inr ne ↦ elim (cases_last k lt) [
      | inl h ↦ get_or-set_other seen step.need n true false ne ∙ are.marked n (k, h, sym (ap (λ (s : Step). s.need) (longer.same k h)) ∙ is)
      | inr e ↦ absurd (ne (sym is ∙ ap (λ (m : ℕ). (step_at (steps ++ step ∷ []) m).need) e ∙ ap (λ (s : Step). s.need) last))
    ]
  ]

  reaches : (n : ℕ) → get_or (set seen step.need true) n false ≡ true → Reached (steps ++ step ∷ []) n
  reaches n e = elim (cases_eq n step.need) [
    | inl is ↦ (length steps, omega (arith, one_longer), ap (λ (s : Step). s.need) last ∙ sym is)
    | inr ne ↦ still_reached n longer (are.reached n (sym (get_or-set_other seen step.need n true false ne) ∙ e))
  ]

  pub one_more : AreSteps table owners (steps ++ step ∷ []) (set seen step.need true)
  one_more = record {
    some = omega (arith, one_longer);
    each = each;
    differ = differ;
    whole = length-set seen step.need true ∙ are.whole;
    counted = counted;
    marked = marks;
    reached = reaches;
  }

  pub last_reached : Reached (steps ++ step ∷ []) step.need
  last_reached = (length steps, omega (arith, one_longer), ap (λ (s : Step). s.need) last)
