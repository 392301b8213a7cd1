-- How functions of the interpreter end, by the meaning of texts.
use Rattle.std.specs.Prelude.{ℕ, List, Result, Ok, Err}
use Rattle.lab_base.specs.declared.fault.Kind.{Kind}
use Rattle.tcl_eval.specs.declared.hosts.Called.{Called}
use Rattle.tcl_eval.specs.declared.halts.Halt.{Halt}
use Rattle.tcl_eval.specs.declared.halts.Halt.TheVariants.{Fault, Stop, Memory}
use Rattle.tcl_eval.specs.Jobs.{Job, Gain, fails}
use Rattle.tcl_eval.specs.State.{State}
use Rattle.tcl_eval.specs.Evals.{Evals}

-- what was found, unless memory ran out
abbrev pub Gives : {A : Type 0} → (Result A Kind → Type 0) → Result A Halt → Type 0
Gives P (Ok x) = P (Ok x)
Gives P (Err (Fault k)) = P (Err k)
Gives P (Err Stop) = ⊥
Gives P (Err Memory) = Unit {0}

module _ {O : Type 0} (calls : O → List (List ℕ) → Result Called Kind × O) (hears : O → List ℕ → List ℕ → Result (Unit {0}) Kind × O) where
  -- a job ended so, unless memory ran out
  abbrev pub Ends : {A : Type 0} → (A → Gain) → ℕ → Job → State O → State O → Result A Halt → Type 0
  Ends view l j s u (Ok x) = Evals calls hears l j s (Ok (view x)) u
  Ends view l j s u (Err (Fault k)) = Evals calls hears l j s (fails k) u
  Ends view l j s u (Err Stop) = Evals calls hears l j s (Err Stop) u
  Ends view l j s u (Err Memory) = Unit {0}
