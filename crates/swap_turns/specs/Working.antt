-- A journal at work over a trace.
use Rattle.std.specs.Prelude.{◌≡◌, ◌⊎◌, ℕ, List}
use Rattle.plant.specs.Disks.{ArePossible}
use Rattle.plant.specs.Events.{Event}
use Rattle.journal_rec.specs.declared.record.Record.{Record}
use Rattle.journal_model.specs.Journals.{Records, gate_after}
use Rattle.records_model.specs.Labs.{LabState, Texts, LabOf}
use Rattle.records_model.specs.Works.{AtWork}
use Rattle.journal_disk.specs.Standing.{side_of, gate_of}
use Rattle.journal_disk.specs.declared.journal.Journal.{Journal}

-- two sides stand for that lab
pub record StandForLab (t : Texts) (a b : List ℕ) (s : LabState) : Type 0 where
  pub records : List Record
  pub read : Records a b records
  pub lab_of : LabOf t records s

-- all possible images stand for it
abbrev pub AllStandFor : Texts → List Event → LabState → Type 0
AllStandFor t trace s = (a b : List ℕ) → ArePossible trace a b → StandForLab t a b s

-- each possible image stands for one lab or for another
abbrev pub StandForEither : Texts → List Event → LabState → LabState → Type 0
StandForEither t trace s u = (a b : List ℕ) → ArePossible trace a b → StandForLab t a b s ⊎ StandForLab t a b u

-- THE JOURNAL IS AT WORK over the trace, with these records and that lab
pub record Works (t : Texts) (trace : List Event) (j : Journal) (rs : List Record) (s : LabState) : Type 0 where
  pub work : AtWork t trace (side_of j) rs s
  pub gate : gate_of j ≡ gate_after rs
