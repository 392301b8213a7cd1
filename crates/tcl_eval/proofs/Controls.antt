-- How `expr`, `if`, `for` and `foreach` end, over opaque words.
use Rattle.std.proofs.Common.{◌≡◌, ◌≢◌, ℕ, ◌<◌, ◌≤◌, List, [], ◌∷◌, length, get_or, drop, Some, None, Result, Ok, Err, sym, subst, arith}
use Rattle.std.specs.Prelude.{slice_range, true, false, ℤ}
use Rattle.std.specs.Fmt.{signed_decimal}
use Rattle.lab_base.specs.declared.fault.Kind.{Kind}
use Rattle.lab_base.specs.declared.fault.Kind.TheVariants as kinds
use Rattle.tcl_eval.specs.declared.hosts.Called.{Called}
use Rattle.tcl_eval.specs.declared.halts.Halt.{Halt}
use Rattle.tcl_eval.specs.declared.halts.Halt.TheVariants.{Fault}
use Rattle.tcl_eval.specs.declared.commands.Own.TheVariants as owns
use Rattle.tcl_eval.specs.declared.machine.Machine.{Machine}
use Rattle.tcl_eval.specs.Jobs.{Job, Nested, Call, If, For, Each, Condition, Expression, Gain, Value, Integer, Truth, fails}
use Rattle.tcl_eval.specs.Forms.{own, joined_by, Branching, branches_of, element_from}
use Rattle.tcl_eval.specs.State.{State, state, with_value}
use Rattle.tcl_eval.specs.Evals as rules
use Rattle.tcl_eval.specs.Evals.{Evals}
use Rattle.tcl_eval.specs.Machines.{seen, Ended, Leads}
use Rattle.tcl_eval.proofs.Ended.{got, given, faulted, halted, handed, by, leads, leads_on}
use Rattle.tcl_eval.proofs.WordLists.{after_command, four_words, five_words}

-- a variable's new value, in what contracts see
pub written : {H O : Type 0} (objects : H → O) (m n : Machine H) (name value : List ℕ)
    → state n.variables.entries (objects n.host) n.left ≡ with_value (state m.variables.entries (objects m.host) m.left) name value → seen objects n ≡ with_value (seen objects m) name value
unfolding seen
written objects m n name value h = h

module _ {O : Type 0} (calls : O → List (List ℕ) → Result Called Kind × O) (hears : O → List ℕ → List ℕ → Result (Unit {0}) Kind × O) where
  -- expr
  pub expr_arity : (l : ℕ) (ws : List (List ℕ)) (s : State O) → own ws ≡ Some owns.Expr → length ws < 2 → Ended calls hears Value l (Call ws) s s (Err (Fault kinds.Arity))
  expr_arity l ws s mine few = faulted calls hears Value l (Call ws) s s kinds.Arity (rules.expr_arity mine few)

  pub expr_long : (l : ℕ) (ws : List (List ℕ)) (text : List ℕ) (s : State O) (e : Halt) → own ws ≡ Some owns.Expr → 2 ≤ length ws → text ≡ joined_by (32 ∷ []) (drop 1 ws)
      → (e ≡ Fault kinds.Long) × (65536 < length text) → Ended calls hears Value l (Call ws) s s (Err e)
  expr_long l ws text s e mine some is long =
      rw long.0 (faulted calls hears Value l (Call ws) s s kinds.Long (after_command (λ (ws : List (List ℕ)). Evals calls hears l (Call ws) s (fails kinds.Long) s) owns.Expr ws some mine
      (λ cmd own more. rules.expr_long own more (subst (λ (x : List ℕ). 65536 < length x) is long.1))))

  pub expr_halts : (l : ℕ) (ws : List (List ℕ)) (text : List ℕ) (s u : State O) (e : Halt) → own ws ≡ Some owns.Expr → 2 ≤ length ws → text ≡ joined_by (32 ∷ []) (drop 1 ws)
      → length text ≤ 65536 → Ended calls hears Integer l (Expression text) s u (Err e) → Ended calls hears Value l (Call ws) s u (Err e)
  expr_halts l ws text s u e mine some is short h =
      halted calls hears Integer Value l l (Expression text) (Call ws) s u s u e
      (λ (h : Halt) (out : Evals calls hears l (Expression text) s (Err h) u). after_command (λ (ws : List (List ℕ)). Evals calls hears l (Call ws) s (Err h) u) owns.Expr ws some mine
      (λ cmd own more. rules.expr_halts own more (subst (λ (x : List ℕ). length x ≤ 65536) is short) (subst (λ (x : List ℕ). Evals calls hears l (Expression x) s (Err h) u) is out))) h

  pub computes : (l : ℕ) (ws : List (List ℕ)) (text v : List ℕ) (s u : State O) (z : ℤ) → own ws ≡ Some owns.Expr → 2 ≤ length ws → text ≡ joined_by (32 ∷ []) (drop 1 ws)
      → length text ≤ 65536 → Ended calls hears Integer l (Expression text) s u (Ok z) → v ≡ signed_decimal z → Ended calls hears Value l (Call ws) s u (Ok v)
  computes l ws text v s u z mine some is short h number =
      rw number (given calls hears Value l (Call ws) s u (signed_decimal z) (after_command (λ (ws : List (List ℕ)). Evals calls hears l (Call ws) s (Ok (Value (signed_decimal z))) u) owns.Expr ws some mine
      (λ cmd own more. rules.computes own more (subst (λ (x : List ℕ). length x ≤ 65536) is short)
      (subst (λ (x : List ℕ). Evals calls hears l (Expression x) s (Ok (Integer z)) u) is (got calls hears Integer l (Expression text) s u z h)))))

  -- if
  pub if_arity : (l : ℕ) (ws : List (List ℕ)) (s : State O) → own ws ≡ Some owns.If → branches_of ws ≡ None → Ended calls hears Value l (Call ws) s s (Err (Fault kinds.Arity))
  if_arity l ws s mine none = faulted calls hears Value l (Call ws) s s kinds.Arity (rules.if_arity mine none)

  pub if_starts : (l : ℕ) (ws : List (List ℕ)) (bs : List Branching) (s : State O) → own ws ≡ Some owns.If → branches_of ws ≡ Some bs → Leads calls hears l (If bs) s (Call ws) s
  if_starts l ws bs s mine some = leads calls hears l (If bs) (Call ws) s s (λ r u h. rules.branches mine some h)

  pub branch_halts : (l : ℕ) (cond body : List ℕ) (bs rest : List Branching) (s u x : State O) (j : Job) (e : Halt) → bs ≡ (Some cond, body) ∷ rest
      → Leads calls hears l (If bs) s j x → Ended calls hears Truth l (Condition cond) s u (Err e) → Ended calls hears Value l j x u (Err e)
  branch_halts l cond body bs rest s u x j e is on h =
      halted calls hears Truth Value l l (Condition cond) j s u x u e (λ (h : Halt) (out : Evals calls hears l (Condition cond) s (Err h) u).
      by calls hears l (If bs) j s x (Err h) u on (subst (λ (bs : List Branching). Evals calls hears l (If bs) s (Err h) u) (sym is) (rules.branch_halts out))) h

  pub taken : (l : ℕ) (cond body : List ℕ) (bs rest : List Branching) (s u w x : State O) (j : Job) (y : Result (List ℕ) Halt) → bs ≡ (Some cond, body) ∷ rest
      → Leads calls hears l (If bs) s j x → Ended calls hears Truth l (Condition cond) s u (Ok true) → Ended calls hears Value l (Nested body) u w y → Ended calls hears Value l j x w y
  taken l cond body bs rest s u w x j y is on up h =
      handed calls hears Value l l (Nested body) j u w x w y (λ (r : Result Gain Halt) (out : Evals calls hears l (Nested body) u r w).
      by calls hears l (If bs) j s x r w on (subst (λ (bs : List Branching). Evals calls hears l (If bs) s r w) (sym is) (rules.taken (got calls hears Truth l (Condition cond) s u true up) out))) h

  pub otherwise : (l : ℕ) (body : List ℕ) (bs rest : List Branching) (s w x : State O) (j : Job) (y : Result (List ℕ) Halt) → bs ≡ (None, body) ∷ rest
      → Leads calls hears l (If bs) s j x → Ended calls hears Value l (Nested body) s w y → Ended calls hears Value l j x w y
  otherwise l body bs rest s w x j y is on h =
      handed calls hears Value l l (Nested body) j s w x w y (λ (r : Result Gain Halt) (out : Evals calls hears l (Nested body) s r w).
      by calls hears l (If bs) j s x r w on (subst (λ (bs : List Branching). Evals calls hears l (If bs) s r w) (sym is) (rules.otherwise out))) h

  pub not_taken : (l : ℕ) (cond body : List ℕ) (bs rest : List Branching) (s u x : State O) (j : Job) → bs ≡ (Some cond, body) ∷ rest
      → Leads calls hears l (If bs) s j x → Ended calls hears Truth l (Condition cond) s u (Ok false) → Leads calls hears l (If rest) u j x
  not_taken l cond body bs rest s u x j is on down =
      leads_on calls hears l (If bs) j (If rest) s x u on (λ (r : Result Gain Halt) (w : State O) (out : Evals calls hears l (If rest) u r w).
      subst (λ (bs : List Branching). Evals calls hears l (If bs) s r w) (sym is) (rules.not_taken (got calls hears Truth l (Condition cond) s u false down) out))

  pub if_ends : (l : ℕ) (v : List ℕ) (bs : List Branching) (s x : State O) (j : Job) → bs ≡ [] → v ≡ [] → Leads calls hears l (If bs) s j x → Ended calls hears Value l j x s (Ok v)
  if_ends l v bs s x j is empty on =
      rw empty (given calls hears Value l j x s [] (by calls hears l (If bs) j s x (Ok (Value [])) s on (subst (λ (bs : List Branching). Evals calls hears l (If bs) s (Ok (Value [])) s) (sym is) rules.no_branch)))

  -- for
  pub for_arity : (l : ℕ) (ws : List (List ℕ)) (s : State O) → own ws ≡ Some owns.For → length ws ≢ 5 → Ended calls hears Value l (Call ws) s s (Err (Fault kinds.Arity))
  for_arity l ws s mine wrong = faulted calls hears Value l (Call ws) s s kinds.Arity (rules.for_arity mine wrong)

  pub start_halts : (l : ℕ) (ws : List (List ℕ)) (start cond next body : List ℕ) (s u : State O) (e : Halt) → own ws ≡ Some owns.For
      → start ≡ get_or ws 1 start → cond ≡ get_or ws 2 cond → next ≡ get_or ws 3 next → body ≡ get_or ws 4 body → length ws ≡ 5
      → Ended calls hears Value l (Nested start) s u (Err e) → Ended calls hears Value l (Call ws) s u (Err e)
  start_halts l ws start cond next body s u e mine i1 i2 i3 i4 five h =
      halted calls hears Value Value l l (Nested start) (Call ws) s u s u e (λ (h : Halt) (out : Evals calls hears l (Nested start) s (Err h) u).
      five_words (λ (ws : List (List ℕ)). Evals calls hears l (Call ws) s (Err h) u) owns.For start cond next body ws i1 i2 i3 i4 (omega arith) (omega arith) mine (λ cmd own. rules.start_halts own out)) h

  pub for_starts : (l : ℕ) (ws : List (List ℕ)) (start cond next body v : List ℕ) (s u : State O) → own ws ≡ Some owns.For
      → start ≡ get_or ws 1 start → cond ≡ get_or ws 2 cond → next ≡ get_or ws 3 next → body ≡ get_or ws 4 body → length ws ≡ 5
      → Ended calls hears Value l (Nested start) s u (Ok v) → Leads calls hears l (For cond next body) u (Call ws) s
  for_starts l ws start cond next body v s u mine i1 i2 i3 i4 five h =
      leads calls hears l (For cond next body) (Call ws) u s (λ (r : Result Gain Halt) (w : State O) (out : Evals calls hears l (For cond next body) u r w).
      five_words (λ (ws : List (List ℕ)). Evals calls hears l (Call ws) s r w) owns.For start cond next body ws i1 i2 i3 i4 (omega arith) (omega arith) mine
      (λ cmd own. rules.starts own (got calls hears Value l (Nested start) s u v h) out))

  pub for_condition : (l : ℕ) (cond next body : List ℕ) (s u x : State O) (j : Job) (e : Halt) → Leads calls hears l (For cond next body) s j x
      → Ended calls hears Truth l (Condition cond) s u (Err e) → Ended calls hears Value l j x u (Err e)
  for_condition l cond next body s u x j e on h =
      halted calls hears Truth Value l l (Condition cond) j s u x u e (λ (h : Halt) (out : Evals calls hears l (Condition cond) s (Err h) u).
      by calls hears l (For cond next body) j s x (Err h) u on (rules.condition_halts out)) h

  pub for_ends : (l : ℕ) (cond next body v : List ℕ) (s u x : State O) (j : Job) → v ≡ [] → Leads calls hears l (For cond next body) s j x
      → Ended calls hears Truth l (Condition cond) s u (Ok false) → Ended calls hears Value l j x u (Ok v)
  for_ends l cond next body v s u x j empty on down =
      rw empty (given calls hears Value l j x u [] (by calls hears l (For cond next body) j s x (Ok (Value [])) u on (rules.for_ends (got calls hears Truth l (Condition cond) s u false down))))

  pub body_halts : (l : ℕ) (cond next body : List ℕ) (s u w x : State O) (j : Job) (e : Halt) → Leads calls hears l (For cond next body) s j x
      → Ended calls hears Truth l (Condition cond) s u (Ok true) → Ended calls hears Value l (Nested body) u w (Err e) → Ended calls hears Value l j x w (Err e)
  body_halts l cond next body s u w x j e on up h =
      halted calls hears Value Value l l (Nested body) j u w x w e (λ (h : Halt) (out : Evals calls hears l (Nested body) u (Err h) w).
      by calls hears l (For cond next body) j s x (Err h) w on (rules.body_halts (got calls hears Truth l (Condition cond) s u true up) out)) h

  pub next_halts : (l : ℕ) (cond next body v : List ℕ) (s u w y x : State O) (j : Job) (e : Halt) → Leads calls hears l (For cond next body) s j x
      → Ended calls hears Truth l (Condition cond) s u (Ok true) → Ended calls hears Value l (Nested body) u w (Ok v) → Ended calls hears Value l (Nested next) w y (Err e)
      → Ended calls hears Value l j x y (Err e)
  next_halts l cond next body v s u w y x j e on up one h =
      halted calls hears Value Value l l (Nested next) j w y x y e (λ (h : Halt) (out : Evals calls hears l (Nested next) w (Err h) y).
      by calls hears l (For cond next body) j s x (Err h) y on (rules.next_halts (got calls hears Truth l (Condition cond) s u true up) (got calls hears Value l (Nested body) u w v one) out)) h

  pub turns : (l : ℕ) (cond next body v q : List ℕ) (s u w y x : State O) (j : Job) → Leads calls hears l (For cond next body) s j x
      → Ended calls hears Truth l (Condition cond) s u (Ok true) → Ended calls hears Value l (Nested body) u w (Ok v) → Ended calls hears Value l (Nested next) w y (Ok q)
      → Leads calls hears l (For cond next body) y j x
  turns l cond next body v q s u w y x j on up one two =
      leads_on calls hears l (For cond next body) j (For cond next body) s x y on (λ (r : Result Gain Halt) (z : State O) (out : Evals calls hears l (For cond next body) y r z).
      rules.turns (got calls hears Truth l (Condition cond) s u true up) (got calls hears Value l (Nested body) u w v one) (got calls hears Value l (Nested next) w y q two) out)

  -- foreach
  pub each_arity : (l : ℕ) (ws : List (List ℕ)) (s : State O) → own ws ≡ Some owns.Foreach → length ws ≢ 4 → Ended calls hears Value l (Call ws) s s (Err (Fault kinds.Arity))
  each_arity l ws s mine wrong = faulted calls hears Value l (Call ws) s s kinds.Arity (rules.each_arity mine wrong)

  pub goes_over : (l : ℕ) (ws : List (List ℕ)) (n list body : List ℕ) (s : State O) → own ws ≡ Some owns.Foreach
      → n ≡ get_or ws 1 n → list ≡ get_or ws 2 list → body ≡ get_or ws 3 body → length ws ≡ 4 → Leads calls hears l (Each n list 0 body) s (Call ws) s
  goes_over l ws n list body s mine i1 i2 i3 four =
      leads calls hears l (Each n list 0 body) (Call ws) s s (λ (r : Result Gain Halt) (w : State O) (out : Evals calls hears l (Each n list 0 body) s r w).
      four_words (λ (ws : List (List ℕ)). Evals calls hears l (Call ws) s r w) owns.Foreach n list body ws i1 i2 i3 (omega arith) (omega arith) mine (λ cmd own. rules.goes_over own out))

  pub each_ends : (l : ℕ) (n list body v : List ℕ) (at : ℕ) (s x : State O) (j : Job) → element_from list at ≡ None → v ≡ [] → Leads calls hears l (Each n list at body) s j x
      → Ended calls hears Value l j x s (Ok v)
  each_ends l n list body v at s x j none empty on =
      rw empty (given calls hears Value l j x s [] (by calls hears l (Each n list at body) j s x (Ok (Value [])) s on (rules.each_ends none)))

  pub each_halts : (l : ℕ) (n list body item : List ℕ) (at from end : ℕ) (s w u x : State O) (j : Job) (e : Halt) → element_from list at ≡ Some (from, end) → item ≡ slice_range list from end
      → w ≡ with_value s n item → Leads calls hears l (Each n list at body) s j x → Ended calls hears Value l (Nested body) w u (Err e) → Ended calls hears Value l j x u (Err e)
  each_halts l n list body item at from end s w u x j e found is set on h =
      halted calls hears Value Value l l (Nested body) j w u x u e (λ (h : Halt) (out : Evals calls hears l (Nested body) w (Err h) u).
      by calls hears l (Each n list at body) j s x (Err h) u on (rules.each_halts found (subst (λ (v : List ℕ). Evals calls hears l (Nested body) (with_value s n v) (Err h) u) is
      (subst (λ (w : State O). Evals calls hears l (Nested body) w (Err h) u) set out)))) h

  pub each_done : (l : ℕ) (n list body item v : List ℕ) (at from end : ℕ) (s w u x : State O) (j : Job) → element_from list at ≡ Some (from, end) → item ≡ slice_range list from end
      → w ≡ with_value s n item → Leads calls hears l (Each n list at body) s j x → Ended calls hears Value l (Nested body) w u (Ok v) → Leads calls hears l (Each n list end body) u j x
  each_done l n list body item v at from end s w u x j found is set on h =
      leads_on calls hears l (Each n list at body) j (Each n list end body) s x u on (λ (r : Result Gain Halt) (y : State O) (out : Evals calls hears l (Each n list end body) u r y).
      rules.each found (subst (λ (q : List ℕ). Evals calls hears l (Nested body) (with_value s n q) (Ok (Value v)) u) is
      (subst (λ (w : State O). Evals calls hears l (Nested body) w (Ok (Value v)) u) set (got calls hears Value l (Nested body) w u v h))) out)
