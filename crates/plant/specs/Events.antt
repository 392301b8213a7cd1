-- The steps of a plant.
use Rattle.std.specs.Prelude.{ℕ, Bool, List, Result}
use Rattle.plant.specs.declared.step.Side.{Side}
use Rattle.plant.specs.declared.device.DeviceOp.{DeviceOp}
use Rattle.plant.specs.declared.device.Answer.{Answer}
use Rattle.plant.specs.declared.device.Fault.{Fault}

-- one step, with its bytes
pub data Event : Type 0 where
  Wrote : (side : Side) (at : ℕ) (bytes : List ℕ) → Event
  Synced : (side : Side) → Event
  Cut : (side : Side) (size : ℕ) → Event
  Missed : (side : Side) → Event
  Did : (op : DeviceOp) (applied : Bool) (answer : Result Answer Fault) → Event
  Restarted : (a b : List ℕ) → Event
  Unread : (device : List ℕ) → Event
