-- The fault of a call of the plant, as a fault of the journal.
use Rattle.std.specs.Prelude.{◌≡◌, ◌≤◌, ℕ, Result, Err, IsErrOf}
use Rattle.lab_base.specs.Counts.{Rose}
use Rattle.plant.specs.declared.device.Fault.{Fault}
use Rattle.plant.specs.declared.device.Fault.TheVariants.{Failed, Stopped}
use Rattle.plant.specs.declared.moment.Faults.{Faults}
use Rattle.plant.specs.declared.step.Side.{Side}
use Rattle.journal_disk.specs.declared.fault.OpenFault.{OpenFault}
use Rattle.journal_disk.specs.declared.fault.OpenFault.TheVariants as opening
use Rattle.journal_disk.specs.declared.fault.AppendFault.{AppendFault}
use Rattle.journal_disk.specs.declared.fault.AppendFault.TheVariants as appending
use Rattle.journal_disk.specs.declared.fault.CompactFault.{CompactFault}
use Rattle.journal_disk.specs.declared.fault.CompactFault.TheVariants as compacting

abbrev pub open_fault : Fault → OpenFault
open_fault Failed = opening.Plant
open_fault Stopped = opening.Stopped

abbrev pub append_fault : Fault → AppendFault
append_fault Failed = appending.Plant
append_fault Stopped = appending.Stopped

abbrev pub compact_fault : Fault → CompactFault
compact_fault Failed = compacting.Plant
compact_fault Stopped = compacting.Stopped

-- A call that reads a side and takes memory: the counts of faults, as after each call of the disk, and that nothing is bad.
pub record ReadCause {T : Type 0} (before now : Faults) (result : Result T OpenFault) : Type 0 where
  pub devices : now.devices ≡ before.devices
  pub later : before.disk ≤ now.disk
  pub failed : IsErrOf result opening.Plant → Rose before.disk now.disk
  pub bad : (side : Side) (at : ℕ) → result ≡ Err (opening.Bad side at) → ⊥
