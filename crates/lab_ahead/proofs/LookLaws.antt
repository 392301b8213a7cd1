-- A look along the row of a need: the entries read, and the tree after it.
use Rattle.std.proofs.Common.{◌≡◌, ◌<◌, ◌+◌, ℕ, zero, suc, Bool, true, false, List, [], ◌∷◌, length, get_or, Option, sym, ap, ◌∙◌, subst, inl, inr, arith}
use Rattle.std.specs.Global.{Vec}
use Rattle.std.proofs.lemmas.Bool.{cases_lt, false≢true}
use Rattle.std.proofs.lemmas.List.{get_or-map, get_or_read, length-map, get_or_past}
use Rattle.lab_ahead.specs.declared.giving.Giving.{Giving}
use Rattle.lab_ahead.specs.declared.tree.Step.{Step}
use Rattle.lab_ahead.specs.SearchTrees.{AreSteps, Extends, IsClosedAt, IsTaken, IsWhole, owners_in, serves, step_at, table_in}
use Rattle.lab_ahead.proofs.TreeLaws.{reached_within, still_taken}

pub read_step : (steps : List Step) (k : ℕ) (step : Step) → k < length steps → step ≡ get_or steps k step → step_at steps k ≡ step
read_step steps k step lt is = sym (get_or_read steps k step lt is (record { need = 0; position = 0; parent = 0 }))

pub table_length : (giving : Giving) → length (table_in giving) ≡ length giving.rows.items
table_length giving = length-map giving.rows.items (λ (row : Vec Bool). row.items)

pub table_row : (giving : Giving) (n : ℕ) (row : Vec Bool) → n < length giving.rows.items → row ≡ get_or giving.rows.items n row → get_or (table_in giving) n [] ≡ row.items
table_row giving n row lt is = get_or-map (λ (r : Vec Bool). r.items) giving.rows.items n row [] lt ∙ ap (λ (r : Vec Bool). r.items) (sym is)

pub served_within : (table : List (List Bool)) (n i : ℕ) → serves table n i ≡ true → n < length table
served_within [] n i e = absurd (false≢true e)
served_within (row ∷ table) zero i e = omega arith
served_within (row ∷ table) (suc n) i e = omega (arith, served_within table n i e)

-- one node more is looked at
pub closed_more : (table : List (List Bool)) (owners : List (Option ℕ)) (old new : List Step) (need i : ℕ) → Extends old new
    → ((j : ℕ) → j < i → serves table need j ≡ true → IsTaken owners old j) → (serves table need i ≡ true → IsTaken owners new i)
    → (j : ℕ) → j < i + 1 → serves table need j ≡ true → IsTaken owners new j
closed_more table owners old new need i e before here j lt can = elim (cases_lt j i) [
  | inl h ↦ still_taken owners j e (before j h can)
  | inr h ↦ let same : i ≡ j = omega arith in subst (λ (k : ℕ). IsTaken owners new k) same (here (subst (λ (k : ℕ). serves table need k ≡ true) (sym same) can))
]

-- all nodes are looked at
pub closed_all : (table : List (List Bool)) (owners : List (Option ℕ)) (steps : List Step) (place need : ℕ) → (step_at steps place).need ≡ need
    → ((j : ℕ) → j < length (get_or table need []) → serves table need j ≡ true → IsTaken owners steps j) → IsClosedAt table owners steps place
closed_all table owners steps place need is all i can =
    let here : serves table need i ≡ true = subst (λ (n : ℕ). serves table n i ≡ true) is can in
    elim (cases_lt i (length (get_or table need []))) [
      | inl lt ↦ all i lt here
      | inr le ↦ absurd (false≢true (sym (get_or_past (get_or table need []) i false le) ∙ here))
    ]

-- the row that is read, and the step that it is of
module _ (self : Giving) (first steps : List Step) (seen : List Bool) (place : ℕ) (step : Step) (row : Vec Bool) (bits : List Bool) (are : AreSteps (table_in self) (owners_in self) first seen)
    (there : place < length first) (read : step ≡ get_or first place step) (extends : Extends first steps) (row_read : row ≡ get_or self.rows.items step.need row) (bits_are : bits ≡ row.items) where
  pub need_is : (step_at steps place).need ≡ step.need
  need_is = ap (λ (s : Step). s.need) (extends.same place there ∙ read_step first place step there read)

  needed : step.need < length self.rows.items
  needed =
      let within : step.need < length (table_in self) = reached_within step.need are (place, there, ap (λ (s : Step). s.need) (read_step first place step there read)) in
      omega (arith, table_length self)

  pub row_is : get_or (table_in self) step.need [] ≡ bits
  row_is = table_row self step.need row needed row_read ∙ sym bits_are

  pub can_take : (i : ℕ) → get_or bits i false ≡ true → serves (table_in self) step.need i ≡ true
  can_take i e = subst (λ (l : List Bool). get_or l i false ≡ true) (sym row_is) e

  pub can_take_there : (i : ℕ) → get_or bits i false ≡ true → serves (table_in self) (step_at steps place).need i ≡ true
  can_take_there i e = subst (λ (n : ℕ). serves (table_in self) n i ≡ true) (sym need_is) (can_take i e)

  pub among_nodes : IsWhole self → (i : ℕ) → i < length bits → i < length (owners_in self)
  among_nodes whole i lt =
      let wide : length (get_or (table_in self) step.need []) ≡ length (owners_in self) = whole.wide step.need (omega (arith, needed, table_length self)) in
      omega (arith, ap (λ (l : List Bool). length l) row_is)

  pub all_looked : ((j : ℕ) → j < length bits → serves (table_in self) step.need j ≡ true → IsTaken (owners_in self) steps j) → IsClosedAt (table_in self) (owners_in self) steps place
  all_looked all = closed_all (table_in self) (owners_in self) steps place step.need need_is (λ j lt can. all j (omega (arith, ap (λ (l : List Bool). length l) row_is)) can)
