-- The answers where a record can't follow.
use Rattle.std.specs.Prelude.{Result, Ok, Err}
use Rattle.lab_base.specs.declared.fault.TextRefused.{TextRefused}
use Rattle.lab_base.specs.declared.fault.TextRefused.TheVariants as refusals
use Rattle.lab_state.specs.declared.fault.PrepareFault.{PrepareFault}
use Rattle.lab_state.specs.declared.fault.PrepareFault.TheVariants as faults

-- a text that isn't read is bad
abbrev pub fault_of : TextRefused → PrepareFault
fault_of (refusals.Text fault) = faults.Bad
fault_of refusals.Memory = faults.Memory

-- the fact holds where the answer is Bad
abbrev pub OnBad : {X : Type 0} → Result X PrepareFault → Type 0 → Type 0
OnBad (Ok x) fact = Unit {0}
OnBad (Err faults.Bad) fact = fact
OnBad (Err faults.Memory) fact = Unit {0}
