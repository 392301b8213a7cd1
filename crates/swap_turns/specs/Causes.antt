-- Causes by counts of faults.
use Rattle.std.specs.Prelude.{◌≤◌}
use Rattle.lab_base.specs.Counts.{Rose}
use Rattle.lab_model.specs.Courses.{Trouble, Device, Late, Unlawful}
use Rattle.plant.specs.Seen.{Seen}

-- A FAILURE OF A DEVICE is told only where the devices' count rose
abbrev pub IsCaused : Trouble → Seen → Seen → Type 0
IsCaused (Device name) before now = Rose before.faults.devices now.faults.devices
IsCaused (Late node) before now = Unit {0}
IsCaused (Unlawful node from to) before now = Unit {0}

-- the counts of faults do not fall
pub record IsLater (before now : Seen) : Type 0 where
  pub disk : before.faults.disk ≤ now.faults.disk
  pub devices : before.faults.devices ≤ now.faults.devices
