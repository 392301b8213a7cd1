-- Rows that are filled, one node or one promise after another.
use Rattle.std.proofs.Common.{◌≡◌, ◌<◌, ◌+◌, ℕ, Bool, true, false, cond, List, [], ◌∷◌, ◌++◌, length, map, filter, take, get_or, sym, ap, ◌∙◌, subst, inl, inr, arith}
use Rattle.std.proofs.Math.ListN.{get_or-append}
use Rattle.std.proofs.lemmas.Bool.{cases_lt}
use Rattle.std.specs.Global.{Vec}
use Rattle.std.proofs.lemmas.List.{append-nil, get_or-map, get_or_push, length-map, map-append}
use Rattle.std.proofs.lemmas.List.Elements.{filter_more}
use Rattle.lab_base.specs.declared.ids.NodeId.{NodeId}
use Rattle.phys_lab.specs.Labs.{Lab}
use Rattle.phys_lab.specs.Tables.{rows}
use Rattle.lab_ahead.specs.declared.batch.Promise.{Promise}
use Rattle.lab_ahead.specs.Givings.{has_type}
use Rattle.lab_ahead.specs.Moments.{holds_at, need_of_promise, needs_at}
use Rattle.lab_ahead.specs.Served.{promise_at}
use Rattle.lab_ahead.specs.SearchTrees.{table_of}

pub rows_length : (table : List (Vec Bool)) → length (rows table) ≡ length table
rows_length table = length-map table (λ (row : Vec Bool). row.items)

-- the row that is read
pub row_read : (table : List (Vec Bool)) (n : ℕ) (row : Vec Bool) → n < length table → row ≡ get_or table n row → get_or (rows table) n [] ≡ row.items
row_read table n row lt is = get_or-map (λ (r : Vec Bool). r.items) table n row [] lt ∙ ap (λ (r : Vec Bool). r.items) (sym is)

-- what holds of each entry holds of one more after them
pub each_pushed : {X : Type 0} (P : ℕ → X → Type 0) (xs : List X) (x d : X) (n : ℕ) → length xs ≡ n → ((k : ℕ) → k < n → P k (get_or xs k d)) → P n x
    → (k : ℕ) → k < n + 1 → P k (get_or (xs ++ x ∷ []) k d)
each_pushed {X} P xs x d n len before here k lt = elim (cases_lt k n) [
  | inl less ↦ subst (λ (y : X). P k y) (sym (get_or-append xs (x ∷ []) d k (omega (arith, len, less)))) (before k less)
  | inr from ↦
      let same : n ≡ k = omega (arith, lt, from) in
      subst (λ (y : X). P k y) (sym (get_or_push xs x d k (len ∙ same))) (subst (λ (m : ℕ). P m x) same here)
]

-- a need more, where the next promise holds
pub one_need : (lab : Lab) (nodes : List NodeId) (promises : List Promise) (at n : ℕ) (test : Bool) → n < length promises → test ≡ holds_at at (promise_at promises n)
    → table_of lab nodes (needs_at (take (n + 1) promises) at)
    ≡ table_of lab nodes (needs_at (take n promises) at) ++ cond test (map (has_type lab (promise_at promises n).kind) nodes ∷ []) []
one_need lab nodes promises at n test lt is =
    ap (λ (l : List Promise). table_of lab nodes (map need_of_promise l)) (filter_more (holds_at at) promises n (record { kind = []; count = 0; from = 0; to = 0 }) lt)
    ∙ ap (λ (b : Bool). table_of lab nodes (map need_of_promise (filter (holds_at at) (take n promises) ++ cond b (promise_at promises n ∷ []) []))) (sym is)
    ∙ by test
  where
    by : (b : Bool) → table_of lab nodes (map need_of_promise (filter (holds_at at) (take n promises) ++ cond b (promise_at promises n ∷ []) []))
        ≡ table_of lab nodes (needs_at (take n promises) at) ++ cond b (map (has_type lab (promise_at promises n).kind) nodes ∷ []) []
    by true =
        ap (λ l. table_of lab nodes l) (map-append need_of_promise (filter (holds_at at) (take n promises)) (promise_at promises n ∷ []))
        ∙ map-append (λ need. map (has_type lab need.kind) nodes) (needs_at (take n promises) at) (need_of_promise (promise_at promises n) ∷ [])
    by false = ap (λ (l : List Promise). table_of lab nodes (map need_of_promise l)) (append-nil (filter (holds_at at) (take n promises))) ∙ sym (append-nil (table_of lab nodes (needs_at (take n promises) at)))
