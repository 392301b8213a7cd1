-- The images while a journal moves onto the other side.
use Rattle.std.specs.Prelude.{◌≡◌, ◌≢◌, ◌⊎◌, ◌+◌, ◌<◌, ℕ, Bool, true, List, [], ◌∷◌, ◌++◌, length, take, drop, Option, Result, Ok, Err, OnOk, IfSome}
use Rattle.plant.specs.Disks.{disk, ArePossible}
use Rattle.plant.specs.Events.{Event, Missed}
use Rattle.plant.specs.Told.{Told, with_steps}
use Rattle.plant.specs.declared.device.Fault.{Fault}
use Rattle.plant.specs.declared.step.Side.{Side}
use Rattle.journal_rec.specs.declared.record.Record.{Record}
use Rattle.journal_model.specs.Appends.{other_side, IsOn}
use Rattle.journal_disk.specs.Compacting.{Come, lacks_closed_gate, side_text, come_steps, MayCome, IsMeant, IsInUse}
use Rattle.journal_disk.specs.Reaching.{IsLast}
use Rattle.journal_disk.specs.Epochs.{epoch_of}
use Rattle.journal_disk.specs.Standing.{side_of}
use Rattle.journal_disk.specs.declared.fault.CompactFault.{CompactFault}
use Rattle.journal_disk.specs.declared.fault.CompactFault.TheVariants as faults
use Rattle.journal_disk.specs.declared.journal.Journal.{Journal}

-- how far the steps of a move onto a side came, by their answer
abbrev pub MoveEnds : Side → List ℕ → Result (Unit {0}) Fault → Come → List Event → Type 0
MoveEnds side text (Ok done) far more = IsInUse far × (more ≡ [])
MoveEnds side text (Err fault) far more = IsLast side fault more × IsMeant text fault far

pub record MovesOver (side : Side) (text : List ℕ) (old new : Option Told) (result : Result (Unit {0}) Fault) : Type 0 where
  pub to_close : Bool
  pub was : IfSome old (λ t. to_close ≡ lacks_closed_gate (disk side t.trace).reads)
  pub far : Come
  pub may : MayCome to_close text far
  pub more : List Event
  pub trace : new ≡ with_steps old (come_steps side to_close far ++ more)
  pub ends : MoveEnds side text result far more

-- WHAT A CALL OF compact ADDS, by its answer: the steps on the other side, with the text of the next epoch
abbrev pub Ends : Side → Result (Unit {0}) CompactFault → Come → List Event → Type 0
Ends side (Ok done) far more = IsInUse far × (more ≡ [])
Ends side (Err faults.Plant) far more = more ≡ Missed side ∷ []
Ends side (Err faults.Stopped) far more = more ≡ []

pub record Compacts (trace steps : List Event) (j : Journal) (packed : List ℕ) (result : Result (Unit {0}) CompactFault) : Type 0 where
  pub far : Come
  pub may : MayCome (lacks_closed_gate (disk (other_side (side_of j)) trace).reads) (side_text (epoch_of j + 1) packed) far
  pub more : List Event
  pub steps_are : steps ≡ come_steps (other_side (side_of j)) (lacks_closed_gate (disk (other_side (side_of j)) trace).reads) far ++ more
  pub ends : Ends (other_side (side_of j)) result far more

-- How a side reads that a text is moved onto: as it did; with its gate closed; with a beginning of the text behind a closed gate; or with
-- the whole text behind the open one.
pub data IsMoving (was text reads : List ℕ) : Type 0 where
  untouched : reads ≡ was → IsMoving was text reads
  closed : lacks_closed_gate was ≡ true → reads ≡ 0 ∷ drop 1 was → IsMoving was text reads
  begun : (gate n : ℕ) → gate ≢ 165 → reads ≡ gate ∷ take n text → IsMoving was text reads
  in_use : reads ≡ 165 ∷ text → IsMoving was text reads

-- So it reads AT EACH MOMENT of a move, also of one that is cut off. Where a call failed, these are the moments before its own steps, which are
-- the last two at most.
abbrev pub LeavesBegun : List Event → List Event → Side → List ℕ → Result (Unit {0}) CompactFault → Type 0
LeavesBegun trace steps side text result = (front back : List Event) → steps ≡ front ++ back → (result ≡ Err faults.Plant → 1 < length back)
    → IsMoving (disk side trace).reads text (disk side (trace ++ front)).reads

-- At each moment each image has the old records on their side, or the packed ones on the other; and after Ok each has the packed ones.
pub record Shifts (trace steps : List Event) (side : Side) (rs ps : List Record) (result : Result (Unit {0}) CompactFault) : Type 0 where
  pub each : (front back : List Event) → steps ≡ front ++ back → (a b : List ℕ) → ArePossible (trace ++ front) a b → IsOn side a b rs ⊎ IsOn (other_side side) a b ps
  pub ok : OnOk result ((a b : List ℕ) → ArePossible (trace ++ steps) a b → IsOn (other_side side) a b ps)
