-- A plant as contracts see it.
use Rattle.std.specs.Prelude.{Bool, Option}
use Rattle.plant.specs.declared.moment.Faults.{Faults}
use Rattle.plant.specs.Told.{Told}

-- its past, where it tells it; how often the disk and the devices failed; and whether it is stopped
pub record Seen : Type 0 where
  pub told : Option Told
  pub faults : Faults
  pub stopped : Bool
