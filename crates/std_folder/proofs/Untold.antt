-- Steps that are told of a folder which tells nothing.
use Rattle.std.proofs.Common.{◌≢◌, [], ◌∷◌, false, List, Result, Ok, Err, refl, inl}
use Rattle.std.specs.Prelude.{ℕ}
use Rattle.plant.specs.declared.device.Fault.{Fault}
use Rattle.plant.specs.declared.device.Fault.TheVariants.{Failed, Stopped}
use Rattle.plant.specs.declared.step.Side.{Side}
use Rattle.plant.specs.DiskCalls.{WriteSteps, SyncSteps, CutSteps}
use Rattle.plant.specs.Events.{Event, Wrote, Synced, Cut, Missed}

pub write_steps : (side : Side) (at : ℕ) (bytes : List ℕ) (result : Result (Unit {0}) Fault) → result ≢ Err Stopped → (steps : List Event) × WriteSteps side at bytes false result steps
write_steps side at bytes (Ok done) runs = (Wrote side at bytes ∷ [], refl)
write_steps side at bytes (Err Failed) runs = (Missed side ∷ [], inl refl)
write_steps side at bytes (Err Stopped) runs = absurd (runs refl)

pub sync_steps : (side : Side) (result : Result (Unit {0}) Fault) → result ≢ Err Stopped → (steps : List Event) × SyncSteps side false result steps
sync_steps side (Ok done) runs = (Synced side ∷ [], refl)
sync_steps side (Err Failed) runs = (Missed side ∷ [], refl)
sync_steps side (Err Stopped) runs = absurd (runs refl)

pub cut_steps : (side : Side) (size : ℕ) (result : Result (Unit {0}) Fault) → result ≢ Err Stopped → (steps : List Event) × CutSteps side size false result steps
cut_steps side size (Ok done) runs = (Cut side size ∷ [], refl)
cut_steps side size (Err Failed) runs = (Missed side ∷ [], inl refl)
cut_steps side size (Err Stopped) runs = absurd (runs refl)
