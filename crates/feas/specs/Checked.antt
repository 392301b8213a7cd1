-- The answer of a check.
use Rattle.std.specs.Prelude.{◌≡◌, Option, Some, None, Result, Ok, Err}
use Rattle.virt_topo.specs.declared.violation.Broken.{Broken}
use Rattle.virt_topo.specs.declared.violation.Subject.{Subject}
use Rattle.feas.specs.declared.fault.CheckFault.{CheckFault}
use Rattle.feas.specs.declared.fault.CheckFault.TheVariants as faults

-- Ok exactly where there is no violation, else the first one; or Memory
abbrev pub IsChecked : {X : Type 0} → Result X CheckFault → Option (Broken × Subject) → Type 0
IsChecked (Ok x) violation = violation ≡ None
IsChecked (Err faults.Memory) violation = Unit {0}
IsChecked (Err (faults.Violation rule subject)) violation = violation ≡ Some (rule, subject)
