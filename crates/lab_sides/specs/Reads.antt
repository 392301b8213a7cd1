-- The records of two sides.
use Rattle.std.specs.Prelude.{◌≡◌, ◌⊎◌, ◌<◌, ℕ, List, [], length, drop}
use Rattle.plant.specs.declared.step.Side.{Side}
use Rattle.plant.specs.Sides.{of_side}
use Rattle.journal_rec.specs.declared.record.Record.{Record}
use Rattle.journal_rec.specs.declared.record.Found.{Found}
use Rattle.journal_model.specs.Journals.{head, live, New, On, Records, Breaks, Bad, gate_after}
use Rattle.journal_disk.specs.Walks.{placed}
use Rattle.lab_sides.specs.declared.walking.Walked.{Walked}
use Rattle.lab_sides.specs.declared.read.Read.{Read}
use Rattle.lab_sides.specs.declared.read.Read.TheVariants as reads

-- the journal stands on that side, with these records, and a closed gate after them
pub record Stands (a b : List ℕ) (side : Side) (w : Walked) (rs : List Record) : Type 0 where
  pub on_side : live (head a) (head b) ≡ On side
  pub records_are : Records a b rs
  pub found_so : w.found ≡ placed 17 rs
  pub gate_is : w.gate ≡ gate_after rs
  pub inside : w.gate < length (of_side side a b)

-- the records of a side before a fault: those up to the open gate after which nothing whole stands; none before a fault of its header, at 0
abbrev pub AreBefore : List ℕ → ℕ → List Found → Type 0
AreBefore bytes at before = ((at ≡ 0) × (before ≡ [])) ⊎ ((rs : List Record) × Breaks (drop 17 bytes) rs × (before ≡ placed 17 rs) × (at ≡ gate_after rs))

-- the sides are no journal, for a fault at a place of a side, with these records before it
pub record HasFault (a b : List ℕ) (side : Side) (at : ℕ) (before : List Found) : Type 0 where
  pub bad : Bad a b side at
  pub before_are : AreBefore (of_side side a b) at before

-- WHAT TWO SIDES HOLD: nothing yet; a journal; or none, for a fault at a place of a side
abbrev pub IsRead : List ℕ → List ℕ → Read → Type 0
IsRead a b reads.New = live (head a) (head b) ≡ New
IsRead a b (reads.On side w) = (rs : List Record) × Stands a b side w rs
IsRead a b (reads.Bad side at before) = HasFault a b side at before
