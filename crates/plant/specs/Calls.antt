-- The calls of a plant.
use Rattle.std.specs.Prelude.{◌≡◌, ◌⊎◌, ℕ, ◌≤◌, Bool, true, false, List, [], ◌∷◌, Result, Ok, Err, IsErrOf}
use Rattle.lab_base.specs.declared.boot.Boot.{Boot}
use Rattle.lab_base.specs.Counts.{Rose}
use Rattle.plant.specs.declared.device.DeviceOp.{DeviceOp}
use Rattle.plant.specs.declared.device.DeviceOp.TheVariants.{Join, Leave, Shape, Load, Boot as BootIt, Poll, Wipe}
use Rattle.plant.specs.declared.device.Answer.{Answer}
use Rattle.plant.specs.declared.device.Answer.TheVariants.{Done, State}
use Rattle.plant.specs.declared.device.Fault.{Fault}
use Rattle.plant.specs.declared.device.Fault.TheVariants.{Failed, Stopped}
use Rattle.plant.specs.declared.moment.Faults.{Faults}
use Rattle.plant.specs.Events.{Event, Did}

-- the device that a command goes to
abbrev pub device_of : DeviceOp → List ℕ
device_of (Join switch port vlan) = switch
device_of (Leave switch port vlan) = switch
device_of (Shape node pipe from to there back) = node
device_of (Load node os) = node
device_of (BootIt node) = node
device_of (Poll node) = node
device_of (Wipe node) = node

-- a poll is answered with a state, and every other command with Done
abbrev pub Fits : DeviceOp → Answer → Type 0
Fits (Poll node) answer = (state : Boot) × (answer ≡ State state)
Fits op answer = answer ≡ Done

-- The steps of a command, by whether the plant was stopped. A stopped plant adds none. A command that failed, or in
-- which the plant stopped, was applied or not.
abbrev pub CommandSteps : DeviceOp → Bool → Result Answer Fault → List Event → Type 0
CommandSteps op true result steps = (result ≡ Err Stopped) × (steps ≡ [])
CommandSteps op false (Ok answer) steps = Fits op answer × (steps ≡ Did op true (Ok answer) ∷ [])
CommandSteps op false (Err Failed) steps = (applied : Bool) × (steps ≡ Did op applied (Err Failed) ∷ [])
CommandSteps op false (Err Stopped) steps = (steps ≡ []) ⊎ ((applied : Bool) × (steps ≡ Did op applied (Err Stopped) ∷ []))

-- after a command: the disk's count stands, the devices' does not fall, and it rose where the command failed
pub record DeviceCause (before now : Faults) (result : Result Answer Fault) : Type 0 where
  pub disk : now.disk ≡ before.disk
  pub later : before.devices ≤ now.devices
  pub failed : IsErrOf result Failed → Rose before.devices now.devices
