-- The answers of a host, by the functions of its calls.
use Rattle.std.specs.Prelude.{◌≡◌, ℕ, List, Result, Ok, Err}
use Rattle.lab_base.specs.declared.fault.Kind.{Kind}
use Rattle.tcl_eval.specs.declared.hosts.Called.{Called}
use Rattle.tcl_eval.specs.declared.hosts.HostFault.{HostFault}
use Rattle.tcl_eval.specs.declared.hosts.HostFault.TheVariants as faults

-- a command is answered by f, or memory ran out
abbrev pub AnswersBy : {O : Type 0} → (O → List (List ℕ) → Result Called Kind × O) → O → List (List ℕ) → Result Called HostFault → O → Type 0
AnswersBy f old words (Ok v) new = f old words ≡ (Ok v, new)
AnswersBy f old words (Err (faults.Kind k)) new = f old words ≡ (Err k, new)
AnswersBy f old words (Err faults.Memory) new = Unit {0}

-- a variable's new value is answered by f, or memory ran out
abbrev pub HearsBy : {O : Type 0} → (O → List ℕ → List ℕ → Result (Unit {0}) Kind × O) → O → List ℕ → List ℕ → Result (Unit {0}) HostFault → O → Type 0
HearsBy f old name value (Ok v) new = f old name value ≡ (Ok v, new)
HearsBy f old name value (Err (faults.Kind k)) new = f old name value ≡ (Err k, new)
HearsBy f old name value (Err faults.Memory) new = Unit {0}
