-- A journal over a trace, and what an append adds to it.
use Rattle.std.specs.Prelude.{◌≡◌, ◌⊎◌, ◌+◌, ℕ, List, [], ◌∷◌, ◌++◌, length, Option, Result, Ok, Err, OnOk}
use Rattle.plant.specs.Disks.{ArePossible}
use Rattle.plant.specs.Events.{Event, Missed}
use Rattle.plant.specs.Told.{Told, with_steps}
use Rattle.plant.specs.declared.device.Fault.{Fault}
use Rattle.plant.specs.declared.step.Side.{Side}
use Rattle.lab_base.specs.Lists.{Has}
use Rattle.journal_rec.specs.declared.record.Record.{Record}
use Rattle.journal_rec.specs.declared.record.Found.{Found}
use Rattle.journal_rec.specs.Payloads.{IsRecord}
use Rattle.journal_disk.specs.Walks.{placed}
use Rattle.journal_model.specs.Journals.{gate_after, Records}
use Rattle.journal_model.specs.Appends.{Opened, Run, Nothing, All, added, IsOn}
use Rattle.journal_disk.specs.declared.fault.AppendFault.{AppendFault}
use Rattle.journal_disk.specs.declared.fault.AppendFault.TheVariants as faults
use Rattle.journal_disk.specs.declared.journal.Journal.{Journal}
use Rattle.journal_disk.specs.Reaching.{Reaches}

abbrev pub side_of : Journal → Side
side_of j = j.side

-- the position of the first closed gate
abbrev pub gate_of : Journal → ℕ
gate_of j = j.gate

-- the position after it
abbrev pub length_of : Journal → ℕ
length_of j = j.gate + 1

abbrev pub limit_of : Journal → ℕ
limit_of j = j.limit

-- both sides are as this journal's last call left them, with these records
pub record IsAt (trace : List Event) (j : Journal) (rs : List Record) : Type 0 where
  pub opened : Opened trace (side_of j) rs
  pub gate : gate_of j ≡ gate_after rs

-- each image has these records
abbrev pub HasAll : List Event → List Record → Type 0
HasAll trace rs = (a b : List ℕ) → ArePossible trace a b → Records a b rs

-- which part of an append was made, and that a call missed where one failed
abbrev pub Ends : Side → Result (Unit {0}) AppendFault → Run → List Event → Type 0
Ends side (Ok done) run more = (run ≡ All) × (more ≡ [])
Ends side (Err (faults.Full size length)) run more = (run ≡ Nothing) × (more ≡ [])
Ends side (Err faults.Plant) run more = more ≡ Missed side ∷ []
Ends side (Err faults.Stopped) run more = more ≡ []

pub record Appends (old new : Option Told) (j : Journal) (r : Record) (result : Result (Unit {0}) AppendFault) : Type 0 where
  pub run : Run
  pub more : List Event
  pub trace : new ≡ with_steps old (added (side_of j) (gate_of j) r run ++ more)
  pub ends : Ends (side_of j) result run more

-- the four steps of an append, all of them after Ok
abbrev pub Adds : Option Told → Option Told → Journal → Record → Result (Unit {0}) Fault → Type 0
Adds old new j r result = Reaches (added (side_of j) (gate_of j) r) (λ run. Unit {0}) All (side_of j) old new result

-- At each moment each image has the old records, or the old and the one new; and after Ok each has the one new.
pub record Moments (trace : List Event) (steps : List Event) (side : Side) (rs : List Record) (r : Record) (result : Result (Unit {0}) AppendFault) : Type 0 where
  pub each : (front back : List Event) → steps ≡ front ++ back → (a b : List ℕ) → ArePossible (trace ++ front) a b → IsOn side a b rs ⊎ IsOn side a b (rs ++ r ∷ [])
  pub ok : OnOk result ((a b : List ℕ) → ArePossible (trace ++ steps) a b → IsOn side a b (rs ++ r ∷ []))

-- THE JOURNAL HOLDS these records, which were found with the places of their gates
pub record Holds (rs : List Record) (j : Journal) (found : List Found) : Type 0 where
  pub found_so : found ≡ placed 17 rs
  pub are_records : (r : Record) → Has rs r → IsRecord r
  pub gate : gate_of j ≡ gate_after rs
