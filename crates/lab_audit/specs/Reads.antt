-- Readings, and how each leaves a plant.
use Rattle.std.specs.Prelude.{◌≡◌, ◌≤◌, ◌<◌, ℕ, List, [], ◌∷◌, map, Option, Some, None, IfSome, Result, Ok, Err}
use Rattle.lab_base.specs.Counts.{Rose}
use Rattle.lab_base.specs.Lists.{Has}
use Rattle.plant.specs.Events.{Event, Unread}
use Rattle.plant.specs.Seen.{Seen}
use Rattle.plant.specs.Told.{with_steps}
use Rattle.plant.specs.Worlds.{NodeRow}
use Rattle.plant.specs.Readings.{IsListOf, HasPipe, pipe_of}
use Rattle.plant.specs.declared.pipe_row.PipeRow.{PipeRow}
use Rattle.lab_audit.specs.declared.fault.AuditFault.{AuditFault}
use Rattle.lab_audit.specs.declared.fault.AuditFault.TheVariants as faults

-- the device that did not tell what it holds, if there is one
abbrev pub unread_in : AuditFault → Option (List ℕ)
unread_in (faults.Unread name) = Some name
unread_in faults.Memory = None

abbrev pub unread_by : {T : Type 0} → Result T AuditFault → Option (List ℕ)
unread_by (Ok value) = None
unread_by (Err fault) = unread_in fault

-- one step for it, and else none
abbrev pub steps_of : Option (List ℕ) → List Event
steps_of None = []
steps_of (Some name) = Unread name ∷ []

-- WHAT READINGS LEAVE of which that of a device failed, or none: a step where one did, and no other; the disk's count and whether the plant is
-- stopped as they were; the devices' count no less, and risen where a reading failed
pub record Reads (before now : Seen) (unread : Option (List ℕ)) : Type 0 where
  pub told : now.told ≡ with_steps before.told (steps_of unread)
  pub disk : now.faults.disk ≡ before.faults.disk
  pub later : before.faults.devices ≤ now.faults.devices
  pub failed : IfSome unread (λ name. Rose before.faults.devices now.faults.devices)
  pub stopped : now.stopped ≡ before.stopped

-- all pipes of a node, by number
pub record ArePipes (row : NodeRow) (pipes : List PipeRow) : Type 0 where
  pub numbers : IsListOf ◌<◌ (HasPipe row) (map (λ p. p.pipe) pipes)
  pub each : (p : PipeRow) → Has pipes p → row.pipes p.pipe ≡ Some (pipe_of p)
