-- No job and no text ends in two ways.
use Rattle.std.specs.Prelude.{◌≡◌, ℕ, List, Result}
use Rattle.lab_base.specs.declared.fault.Kind.{Kind}
use Rattle.lab_base.specs.declared.fault.TextFault.{TextFault}
use Rattle.tcl_eval.specs.declared.hosts.Called.{Called}
use Rattle.tcl_eval.specs.declared.halts.Halt.{Halt}
use Rattle.tcl_eval.specs.declared.runs.Ran.{Ran}
use Rattle.tcl_eval.specs.Jobs.{Job, Gain}
use Rattle.tcl_eval.specs.State.{State}
use Rattle.tcl_eval.specs.Evals.{Evals}
use Rattle.tcl_eval.specs.Runs.{Runs}

module _ {O : Type 0} (calls : O → List (List ℕ) → Result Called Kind × O) (hears : O → List ℕ → List ℕ → Result (Unit {0}) Kind × O) where
  -- with so many levels left, from a state, a job has one end alone
  abbrev pub EvalsOnce : Type 0
  EvalsOnce = (l : ℕ) (j : Job) (s : State O) (r q : Result Gain Halt) (u w : State O) → Evals calls hears l j s r u → Evals calls hears l j s q w → (r ≡ q) × (u ≡ w)

module _ {O : Type 0} (calls : ℕ → O → List (List ℕ) → Result Called Kind × O) (hears : O → List ℕ → List ℕ → Result (Unit {0}) Kind × O) where
  -- from a state a whole text has one end alone
  abbrev pub RunsOnce : Type 0
  RunsOnce = (t : List ℕ) (s : State O) (r q : Result Ran TextFault) (u w : State O) → Runs calls hears t s r u → Runs calls hears t s q w → (r ≡ q) × (u ≡ w)
