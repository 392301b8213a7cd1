-- The rules of evaluation, at states and words that are given by equations.
use Rattle.std.proofs.Common.{◌≡◌, ℕ, ◌∷◌, [], List, Some, Result, Ok, Err, sym, subst}
use Rattle.lab_base.specs.declared.fault.Kind.{Kind}
use Rattle.tcl_eval.specs.declared.hosts.Called.{Called}
use Rattle.tcl_eval.specs.declared.halts.Halt.{Halt}
use Rattle.tcl_eval.specs.declared.halts.Halt.TheVariants.{Fault, Stop, Memory}
use Rattle.tcl_eval.specs.Ends.{Gives, Ends}
use Rattle.tcl_eval.specs.declared.commands.Own.TheVariants as owns
use Rattle.tcl_eval.specs.Forms.{own}
use Rattle.tcl_eval.specs.State.{State, read_of, with_value, with_objects}
use Rattle.tcl_eval.specs.Jobs.{Job, Call, Value, fails, value_or}
use Rattle.tcl_eval.specs.Evals.{Evals, gets, sets, set_fails}

module _ {O : Type 0} (calls : O → List (List ℕ) → Result Called Kind × O) (hears : O → List ℕ → List ℕ → Result (Unit {0}) Kind × O) where
  pub sets_on : (l : ℕ) (s w : State O) (cmd n v : List ℕ) (o : O) → w ≡ with_value s n v → own (cmd ∷ n ∷ v ∷ []) ≡ Some owns.Set
      → hears w.objects n v ≡ (Ok tt, o) → Evals calls hears l (Call (cmd ∷ n ∷ v ∷ [])) s (Ok (Value v)) (with_objects w o)
  sets_on l s w cmd n v o e mine h =
      subst (λ (w : State O). hears w.objects n v ≡ (Ok tt, o) → Evals calls hears l (Call (cmd ∷ n ∷ v ∷ [])) s (Ok (Value v)) (with_objects w o)) (sym e)
      (λ (h : hears s.objects n v ≡ (Ok tt, o)). sets mine h) h

  pub set_fails_on : (l : ℕ) (s w : State O) (cmd n v : List ℕ) (k : Kind) (o : O) → w ≡ with_value s n v → own (cmd ∷ n ∷ v ∷ []) ≡ Some owns.Set
      → hears w.objects n v ≡ (Err k, o) → Evals calls hears l (Call (cmd ∷ n ∷ v ∷ [])) s (fails k) (with_objects w o)
  set_fails_on l s w cmd n v k o e mine h =
      subst (λ (w : State O). hears w.objects n v ≡ (Err k, o) → Evals calls hears l (Call (cmd ∷ n ∷ v ∷ [])) s (fails k) (with_objects w o)) (sym e)
      (λ (h : hears s.objects n v ≡ (Err k, o)). set_fails mine h) h

  -- a variable has the value that a command returns
  pub value_on : (l : ℕ) (s w : State O) (job : Job) (n v : List ℕ) → w ≡ with_value s n v
      → Evals calls hears l job s (Ok (Value v)) (with_value s n v) → Evals calls hears l job s (Ok (Value v)) w
  value_on l s w job n v e h = subst (λ (u : State O). Evals calls hears l job s (Ok (Value v)) u) (sym e) h

  -- `set V`
  pub read_ends : (l : ℕ) (s : State O) (cmd n : List ℕ) (y : Result (List ℕ) Halt) → own (cmd ∷ n ∷ []) ≡ Some owns.Set
      → Gives (λ (r : Result (List ℕ) Kind). r ≡ read_of s n) y → Ends calls hears Value l (Call (cmd ∷ n ∷ [])) s s y
  read_ends l s cmd n (Ok v) mine h = subst (λ (r : Result (List ℕ) Kind). Evals calls hears l (Call (cmd ∷ n ∷ [])) s (value_or r) s) (sym h) (gets mine)
  read_ends l s cmd n (Err (Fault k)) mine h = subst (λ (r : Result (List ℕ) Kind). Evals calls hears l (Call (cmd ∷ n ∷ [])) s (value_or r) s) (sym h) (gets mine)
  read_ends l s cmd n (Err Stop) mine h = absurd h
  read_ends l s cmd n (Err Memory) mine h = tt
