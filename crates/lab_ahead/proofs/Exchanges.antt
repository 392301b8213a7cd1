-- Exchanges along an augmenting path: each need on it keeps as many nodes as it had, and the first one has one more.
use Rattle.std.proofs.Common.{◌≡◌, ◌≢◌, ◌<◌, ◌≤◌, ◌+◌, ℕ, Bool, true, cond, eqb, List, [], length, get_or, set, Option, Some, None, refl, sym, ap, ◌∙◌, subst, inl, inr, arith, get_or-set_same, get_or-set_other}
use Rattle.std.specs.Global.{Vec}
use Rattle.std.proofs.lemmas.Bool.{cases_eq, eq-eqb, ne_eqb}
use Rattle.std.proofs.lemmas.List.Sums.{sum_by-set}
use Rattle.phys_lab.specs.Tables.{rows}
use Rattle.lab_ahead.specs.declared.giving.Giving.{Giving}
use Rattle.lab_ahead.specs.declared.tree.Path.{Path}
use Rattle.lab_ahead.specs.declared.tree.Step.{Step}
use Rattle.lab_ahead.specs.SearchTrees.{AreServed, AreSteps, IsPath, IsWhole, KeepsNodes, held, is_of, owner_at, owners_in, serves, step_at, table_in}
use Rattle.lab_ahead.proofs.Counting.{one_if}
use Rattle.lab_ahead.proofs.TreeLaws.{owned_within}

-- a node that goes from one need to another
pub held-set : (owners : List (Option ℕ)) (i n : ℕ) (o : Option ℕ) → i < length owners
    → held (set owners i o) n + one_if (is_of n (owner_at owners i)) ≡ held owners n + one_if (is_of n o)
held-set owners i n o lt = sum_by-set (λ (x : Option ℕ). cond (is_of n x) 1 0) owners i o None lt

-- the node at `position` is to go to the need of the step at `place`; without it each need has what it had in the beginning
pub record IsUnderWay (table : List (List Bool)) (old owners : List (Option ℕ)) (steps : List Step) (position place : ℕ) : Type 0 where
  pub step : place < length steps
  pub inside : position < length owners
  pub served : AreServed table owners
  pub can : serves table (step_at steps place).need position ≡ true
  pub tree : (k : ℕ) → 0 < k → k ≤ place → owner_at owners (step_at steps k).position ≡ Some (step_at steps k).need
  pub apart : (k : ℕ) → 0 < k → k ≤ place → owner_at owners position ≢ Some (step_at steps k).need
  pub counts : (n : ℕ) → held (set owners position None) n ≡ held old n

pub begins : (table : List (List Bool)) (owners : List (Option ℕ)) (start : ℕ) (path : Path) → AreServed table owners → IsPath table owners start path
    → IsUnderWay table owners owners path.tree.steps.items path.position path.place
begins table owners start path served is = record {
  step = is.found.step;
  inside = is.found.inside;
  served = served;
  can = is.found.served;
  tree = λ k some le. (is.tree.each k some (omega (arith, is.found.step))).owned;
  apart = λ k some le e. none (step_at path.tree.steps.items k).need (sym is.found.free ∙ e);
  counts = λ n. omega (arith, held-set owners path.position n None is.found.inside, ap (λ (o : Option ℕ). one_if (is_of n o)) is.found.free);
}
  where
    none : (n : ℕ) → None ≡ Some n → ⊥
    none n e = cc e

same_need : (m n : ℕ) → Some m ≡ Some n → m ≡ n
same_need m n e = cc e

module _ (table : List (List Bool)) (old : List (Option ℕ)) (steps : List Step) (seen : List Bool) (are : AreSteps table old steps seen)
    (owners : List (Option ℕ)) (position place : ℕ) (way : IsUnderWay table old owners steps position place) where
  -- the node goes to that need
  given : ℕ → List (Option ℕ)
  given n = set owners position (Some n)

  served : (n : ℕ) → n ≡ (step_at steps place).need → AreServed table (set owners position (Some n))
  served n is i m e = elim (cases_eq i position) [
    | inl here ↦
        let one : owner_at (set owners position (Some n)) i ≡ Some n = ap (λ (k : ℕ). owner_at (set owners position (Some n)) k) here ∙ get_or-set_same owners position (Some n) None way.inside in
        let same : m ≡ (step_at steps place).need = sym (same_need n m (sym one ∙ e)) ∙ is in
        subst (λ (k : ℕ). serves table m k ≡ true) (sym here) (subst (λ (k : ℕ). serves table k position ≡ true) (sym same) way.can)
    | inr other ↦ way.served i m (sym (get_or-set_other owners position i (Some n) None other) ∙ e)
  ]

  module _ (some : 0 < place) where
    abbrev here : Step
    here = step_at steps place

    abbrev next : List (Option ℕ)
    next = set owners position (Some (step_at steps place).need)

    away : (k : ℕ) → 0 < k → k ≤ place → (step_at steps k).position ≢ position
    away k positive le e = way.apart k positive le (subst (λ (p : ℕ). owner_at owners p ≡ Some (step_at steps k).need) e (way.tree k positive le))

    kept : (k : ℕ) → 0 < k → k ≤ place → owner_at (set owners position (Some (step_at steps place).need)) (step_at steps k).position ≡ Some (step_at steps k).need
    kept k positive le = get_or-set_other owners position (step_at steps k).position (Some (step_at steps place).need) None (away k positive le) ∙ way.tree k positive le

    back : (step_at steps place).parent < place
    back = (are.each place some way.step).back

    inside : (step_at steps place).position < length (set owners position (Some (step_at steps place).need))
    inside = owned_within (set owners position (Some (step_at steps place).need)) (step_at steps place).position (step_at steps place).need (kept place some (omega arith))

    counts : (n : ℕ) → held (set (set owners position (Some (step_at steps place).need)) (step_at steps place).position None) n ≡ held old n
    counts n =
        let to = held-set owners position n (Some (step_at steps place).need) way.inside in
        let none = held-set owners position n None way.inside in
        let from = held-set (set owners position (Some (step_at steps place).need)) (step_at steps place).position n None inside in
        let was = ap (λ (o : Option ℕ). one_if (is_of n o)) (kept place some (omega arith)) in
        omega (arith, way.counts n, to, none, from, was)

    pub passed_on : IsUnderWay table old (set owners position (Some (step_at steps place).need)) steps (step_at steps place).position (step_at steps place).parent
    passed_on = record {
      step = omega (arith, back, way.step);
      inside = inside;
      served = served (step_at steps place).need refl;
      can = (are.each place some way.step).served;
      tree = λ k positive le. kept k positive (omega (arith, back));
      apart = λ k positive le e. are.differ k place (omega (arith, back)) way.step
          (sym (same_need (step_at steps place).need (step_at steps k).need (sym (kept place some (omega arith)) ∙ e)));
      counts = counts;
    }

  pub served_last : (start : ℕ) → place ≡ 0 → (step_at steps 0).need ≡ start → AreServed table (set owners position (Some start))
  served_last start last is = served start (sym (ap (λ (k : ℕ). (step_at steps k).need) last ∙ is))

  pub counts_last : (start n : ℕ) → held (set owners position (Some start)) n ≡ held old n + one_if (eqb start n)
  counts_last start n =
      let to = held-set owners position n (Some start) way.inside in
      let none = held-set owners position n None way.inside in
      omega (arith, way.counts n, to, none)

-- A NODE THAT WAS GIVEN TO NONE goes to a need of its type
module _ (owners : List (Option ℕ)) (i n : ℕ) (inside : i < length owners) where
  pub served_one : (table : List (List Bool)) → AreServed table owners → serves table n i ≡ true → AreServed table (set owners i (Some n))
  served_one table served can j m e = elim (cases_eq j i) [
    | inl here ↦
        let one : owner_at (set owners i (Some n)) j ≡ Some n = ap (λ (k : ℕ). owner_at (set owners i (Some n)) k) here ∙ get_or-set_same owners i (Some n) None inside in
        let same : n ≡ m = same_need n m (sym one ∙ e) in
        subst (λ (k : ℕ). serves table m k ≡ true) (sym here) (subst (λ (k : ℕ). serves table k i ≡ true) same can)
    | inr other ↦ served j m (sym (get_or-set_other owners i j (Some n) None other) ∙ e)
  ]

  pub held_one : owner_at owners i ≡ None → (m : ℕ) → held (set owners i (Some n)) m ≡ held owners m + one_if (eqb n m)
  held_one free m = omega (arith, held-set owners i m (Some n) inside, ap (λ (o : Option ℕ). one_if (is_of m o)) free)

-- as many nodes, and each given to a need of its type
pub whole_still : (old new : Giving) → IsWhole old → KeepsNodes old new → AreServed (table_in new) (owners_in new) → IsWhole new
whole_still old new whole keeps served = record { wide = wide; served = served }
  where
    table : table_in new ≡ table_in old
    table = ap (λ (v : Vec (Vec Bool)). rows v.items) keeps.table

    wide : (n : ℕ) → n < length (table_in new) → length (get_or (table_in new) n []) ≡ length (owners_in new)
    wide n lt =
        let there : n < length (table_in old) = omega (arith, ap (λ (t : List (List Bool)). length t) table) in
        ap (λ (t : List (List Bool)). length (get_or t n [])) table ∙ whole.wide n there ∙ sym keeps.nodes

pub table_still : (old new : Giving) → KeepsNodes old new → table_in new ≡ table_in old
table_still old new keeps = ap (λ (v : Vec (Vec Bool)). rows v.items) keeps.table

pub nodes_still : (a b c : Giving) → KeepsNodes a b → KeepsNodes b c → KeepsNodes a c
nodes_still a b c ab bc = record { table = bc.table ∙ ab.table; nodes = bc.nodes ∙ ab.nodes }

pub one_here : (n : ℕ) → one_if (eqb n n) ≡ 1
one_here n = ap one_if (eq-eqb n n refl)

pub none_there : (m n : ℕ) → (m ≡ n → ⊥) → one_if (eqb m n) ≡ 0
none_there m n ne = ap one_if (ne_eqb m n ne)
