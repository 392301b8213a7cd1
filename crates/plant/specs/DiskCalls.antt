-- The calls of the disk.
use Rattle.std.specs.Prelude.{◌≡◌, ◌⊎◌, ℕ, ◌≤◌, Bool, true, false, List, [], ◌∷◌, length, Result, Ok, Err, IsErrOf}
use Rattle.lab_base.specs.Counts.{Rose}
use Rattle.plant.specs.declared.device.Fault.{Fault}
use Rattle.plant.specs.declared.device.Fault.TheVariants.{Failed, Stopped}
use Rattle.plant.specs.declared.moment.Faults.{Faults}
use Rattle.plant.specs.declared.step.Side.{Side}
use Rattle.plant.specs.Events.{Event, Wrote, Synced, Cut, Missed}

-- a call that reads adds a step only where it failed
abbrev pub missed : {T : Type 0} → Side → Result T Fault → List Event
missed side (Ok value) = []
missed side (Err Failed) = Missed side ∷ []
missed side (Err Stopped) = []

-- after a call of the disk: the devices' count stands, the disk's does not fall, and it rose where the call failed
pub record DiskCause {T : Type 0} (before now : Faults) (result : Result T Fault) : Type 0 where
  pub devices : now.devices ≡ before.devices
  pub later : before.disk ≤ now.disk
  pub failed : IsErrOf result Failed → Rose before.disk now.disk

-- The steps of a call that changes a side, by whether the plant was stopped. A stopped plant adds none. A call in which
-- the plant stopped had its effect, or none.
abbrev pub MayStop : Event → List Event → Type 0
MayStop effect steps = (steps ≡ []) ⊎ (steps ≡ effect ∷ [])

-- a write that failed may have left anything in its range
abbrev pub WriteSteps : Side → ℕ → List ℕ → Bool → Result (Unit {0}) Fault → List Event → Type 0
WriteSteps side at bytes true result steps = (result ≡ Err Stopped) × (steps ≡ [])
WriteSteps side at bytes false (Ok done) steps = steps ≡ Wrote side at bytes ∷ []
WriteSteps side at bytes false (Err Failed) steps =
    (steps ≡ Missed side ∷ []) ⊎ ((left : List ℕ) × (length left ≡ length bytes) × (steps ≡ Wrote side at left ∷ Missed side ∷ []))
WriteSteps side at bytes false (Err Stopped) steps = MayStop (Wrote side at bytes) steps

-- a sync that failed had no effect
abbrev pub SyncSteps : Side → Bool → Result (Unit {0}) Fault → List Event → Type 0
SyncSteps side true result steps = (result ≡ Err Stopped) × (steps ≡ [])
SyncSteps side false (Ok done) steps = steps ≡ Synced side ∷ []
SyncSteps side false (Err Failed) steps = steps ≡ Missed side ∷ []
SyncSteps side false (Err Stopped) steps = MayStop (Synced side) steps

-- a cut that failed had its effect, or none
abbrev pub CutSteps : Side → ℕ → Bool → Result (Unit {0}) Fault → List Event → Type 0
CutSteps side size true result steps = (result ≡ Err Stopped) × (steps ≡ [])
CutSteps side size false (Ok done) steps = steps ≡ Cut side size ∷ []
CutSteps side size false (Err Failed) steps = (steps ≡ Missed side ∷ []) ⊎ (steps ≡ Cut side size ∷ Missed side ∷ [])
CutSteps side size false (Err Stopped) steps = MayStop (Cut side size) steps
