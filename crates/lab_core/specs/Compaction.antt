-- The journal's move onto its other side, after the settling of an opening.
use Rattle.std.specs.Prelude.{◌≡◌, ◌<◌, ◌≤◌, ◌+◌, ◌-◌, ◌*◌, ◌^◌, ℕ, true, false, List, [], ◌++◌, Option, Result, Ok, Err, IfSome}
use Rattle.plant.specs.Disks.{disk}
use Rattle.plant.specs.Events.{Event}
use Rattle.plant.specs.Told.{Told, with_steps}
use Rattle.plant.specs.declared.step.Side.{Side}
use Rattle.plant.specs.declared.step.Side.TheVariants.{A, B}
use Rattle.journal_rec.specs.declared.record.Record.{Record}
use Rattle.journal_model.specs.Appends.{other_side}
use Rattle.journal_model.specs.Journals.{Records, gate_after}
use Rattle.journal_rec.specs.Packing.{ArePacked}
use Rattle.records_model.specs.Labs.{LabState, LabOf}
use Rattle.records_model.specs.Works.{IsSound}
use Rattle.journal_disk.specs.Epochs.{epoch_of}
use Rattle.journal_disk.specs.Standing.{side_of, length_of}
use Rattle.journal_disk.specs.declared.journal.Journal.{Journal}
use Rattle.journal_disk.specs.declared.fault.OpenFault.{OpenFault}
use Rattle.journal_disk.specs.declared.fault.OpenFault.TheVariants as faults
use Rattle.swap_turns.specs.Pieces.{has_miss, has_outer}
use Rattle.lab_state.specs.Packing.{packed_of}
use Rattle.lab_state.specs.Texts.{the_texts}
use Rattle.lab_core.specs.Controller.{Control}
use Rattle.lab_core.specs.Moments.{IsFoundAt, IsLengthAt, IsLiveAt, AllStandFor}
use Rattle.lab_core.specs.Recovery.{Shifts}

-- how long a journal is that has only the records of the lab without its past
abbrev pub packed_length : LabState → ℕ
packed_length s = gate_after (packed_of the_texts s) + 1

-- THE JOURNAL IS TO MOVE: it is longer than a mebibyte, at most half of that is needed, and it has a next epoch
pub record IsToMove (length epoch : ℕ) (s : LabState) : Type 0 where
  pub long : 1048576 < length
  pub half : 2 * packed_length s ≤ length
  pub next : epoch < 2 ^ 64 - 1

-- WHERE IT IS after an opening's settling: its length, its live side and the epoch; side and epoch are those before the opening, and of a journal that
-- was made in it they are A and 1
pub record IsPlaced (before trace : List Event) (length : ℕ) (side : Side) (epoch : ℕ) : Type 0 where
  pub length_is : IsLengthAt trace length
  pub live : IsLiveAt trace side epoch
  pub kept : (was : Side) (old : ℕ) → IsFoundAt before was old → (side ≡ was) × (epoch ≡ old)

-- THE JOURNAL HAS the records of the lab without its past, and no other, as the sides read
abbrev pub IsPackedAt : List Event → LabState → Type 0
IsPackedAt trace s = Records (disk A trace).reads (disk B trace).reads (packed_of the_texts s)

-- IT WAS MOVED: the other side is live, with the next epoch, and the journal has exactly the records of the lab without its past
pub record HasMoved (trace : List Event) (side : Side) (epoch : ℕ) (s : LabState) : Type 0 where
  pub packed : IsPackedAt trace s
  pub length_is : IsLengthAt trace (packed_length s)
  pub live : IsLiveAt trace (other_side side) (epoch + 1)

-- exactly where it is to move it was moved, and no call failed in that; else nothing was done
pub data IsCompacted (trace steps : List Event) (length : ℕ) (side : Side) (epoch : ℕ) (s : LabState) : Type 0 where
  stays : (IsToMove length epoch s → ⊥) → steps ≡ [] → IsCompacted trace steps length side epoch s
  moves : IsToMove length epoch s → has_miss steps ≡ false → HasMoved (trace ++ steps) side epoch s → IsCompacted trace steps length side epoch s

-- these bytes are the lab without its past, and stand for it where some records do
pub record IsPacked (packed : List ℕ) (s : LabState) : Type 0 where
  pub bytes : ArePacked packed (packed_of the_texts s)
  pub stands : (rs : List Record) → LabOf the_texts rs s → LabOf the_texts (packed_of the_texts s) s

-- WHAT THE MOVE OF A JOURNAL ADDS, by its answer, where it was at work for that lab: it was moved or not; or it broke off, and each image stands for the
-- lab still; or memory was wanting before it
abbrev pub MoveEnds : {X : Type 0} → List Event → List Event → LabState → Journal → Result X OpenFault → Type 0
MoveEnds trace steps s j (Ok done) = IsCompacted trace steps (length_of j) (side_of j) (epoch_of j) s
MoveEnds trace steps s j (Err faults.Plant) = (has_miss steps ≡ true) × IsToMove (length_of j) (epoch_of j) s × (IsSound the_texts trace → AllStandFor (trace ++ steps) s)
MoveEnds trace steps s j (Err faults.Stopped) = IsToMove (length_of j) (epoch_of j) s × (IsSound the_texts trace → AllStandFor (trace ++ steps) s)
MoveEnds trace steps s j (Err faults.Memory) = steps ≡ []
MoveEnds trace steps s j (Err (faults.Bad side at)) = ⊥

-- the live side stays as it was, whatever came of it
pub record MoveSteps {X : Type 0} (trace steps : List Event) (s : LabState) (j : Journal) (result : Result X OpenFault) : Type 0 where
  pub shifts : Shifts steps
  pub aside : disk (side_of j) (trace ++ steps) ≡ disk (side_of j) trace
  pub no_outer : has_outer steps ≡ false
  pub sound : IsSound the_texts trace → IsSound the_texts (trace ++ steps)
  pub ends : MoveEnds trace steps s j result

abbrev pub AfterMove : {X : Type 0} → LabState → Journal → Option Told → Option Told → Result X OpenFault → Type 0
AfterMove s j before now result = (steps : List Event) × (now ≡ with_steps before steps) × IfSome before (λ t. MoveSteps t.trace steps s j result)

-- and of that of a controller
abbrev pub AfterCompaction : Control → Option Told → Option Told → Result Control OpenFault → Type 0
AfterCompaction c before now result = AfterMove c.lab c.journal before now result
