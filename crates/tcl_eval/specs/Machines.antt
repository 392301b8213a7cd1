-- A machine as contracts see it, and the ends of its jobs.
use Rattle.std.specs.Prelude.{ℕ, List, Result}
use Rattle.lab_base.specs.declared.fault.Kind.{Kind}
use Rattle.tcl_eval.specs.declared.hosts.Called.{Called}
use Rattle.tcl_eval.specs.declared.halts.Halt.{Halt}
use Rattle.tcl_eval.specs.declared.machine.Machine.{Machine}
use Rattle.tcl_eval.specs.Jobs.{Job, Gain}
use Rattle.tcl_eval.specs.State.{State, state}
use Rattle.tcl_eval.specs.Evals.{Evals}
use Rattle.tcl_eval.specs.Ends.{Ends}

-- its variables, its host's objects, and how much it may still do
unfoldable pub seen : {H O : Type 0} → (H → O) → Machine H → State O
seen objects machine = state machine.variables.entries (objects machine.host) machine.left

module _ {O : Type 0} (calls : O → List (List ℕ) → Result Called Kind × O) (hears : O → List ℕ → List ℕ → Result (Unit {0}) Kind × O) where
  -- a job ended so, unless memory ran out
  unfoldable pub Ended : {A : Type 0} → (A → Gain) → ℕ → Job → State O → State O → Result A Halt → Type 0
  Ended view l j s u y = Ends calls hears view l j s u y

  -- however the first job ends, the second ends so
  unfoldable pub Leads : ℕ → Job → State O → Job → State O → Type 0
  Leads l i s j t = (r : Result Gain Halt) (u : State O) → Evals calls hears l i s r u → Evals calls hears l j t r u
