-- A side of the disk along a trace.
use Rattle.std.proofs.Common.{◌≡◌, ℕ, Bool, Result, List, [], ◌∷◌, ◌++◌, fold}
use Rattle.std.proofs.lemmas.List.Sums.{fold-append}
use Rattle.plant.specs.Disks.{disk, disk_after, at_once, ArePossible}
use Rattle.plant.specs.Events.{Event, Did}
use Rattle.plant.specs.declared.step.Side.{Side}
use Rattle.plant.specs.declared.step.Side.TheVariants.{A, B}
use Rattle.plant.specs.declared.device.Answer.{Answer}
use Rattle.plant.specs.declared.device.Fault.{Fault}
use Rattle.plant.specs.declared.device.DeviceOp.{DeviceOp}
use Rattle.plant.proofs.Traces.{disk_push}

-- a device command leaves the images as they were
pub did_possible : (trace : List Event) (op : DeviceOp) (applied : Bool) (answer : Result Answer Fault) (a b : List ℕ) → ArePossible (trace ++ Did op applied answer ∷ []) a b → ArePossible trace a b
did_possible trace op applied answer a b possible = rw (disk_push A trace (Did op applied answer), disk_push B trace (Did op applied answer)) at possible

-- a side after more steps
pub disk_more : (side : Side) (trace more : List Event) → disk side (trace ++ more) ≡ fold (disk_after side) (disk side trace) more
disk_more side trace more = fold-append (disk_after side) (at_once []) trace more
