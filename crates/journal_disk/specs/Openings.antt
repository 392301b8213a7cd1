-- The journal of the bytes of a live side.
use Rattle.std.specs.Prelude.{◌≡◌, ℕ, List, drop, Result, Ok, Err}
use Rattle.std.specs.Global.{Vec}
use Rattle.plant.specs.declared.step.Side.{Side}
use Rattle.journal_rec.specs.declared.record.Record.{Record}
use Rattle.journal_rec.specs.declared.record.Found.{Found}
use Rattle.journal_model.specs.Journals.{Reads, Breaks, gate_after}
use Rattle.journal_disk.specs.declared.fault.OpenFault.{OpenFault}
use Rattle.journal_disk.specs.declared.fault.OpenFault.TheVariants as faults
use Rattle.journal_disk.specs.declared.journal.Journal.{Journal}
use Rattle.journal_disk.specs.Standing.{side_of, gate_of, limit_of}
use Rattle.journal_disk.specs.Walks.{placed}

-- the journal on that side, or where it is bad
pub record IsRead (side : Side) (limit : ℕ) (bytes : List ℕ) (j : Journal) (found : List Found) : Type 0 where
  pub rs : List Record
  pub reads : Reads (drop 17 bytes) rs
  pub found_so : found ≡ placed 17 rs
  pub side_is : side_of j ≡ side
  pub gate_is : gate_of j ≡ gate_after rs
  pub limit_is : limit_of j ≡ limit

abbrev pub IsOpened : Side → ℕ → List ℕ → Result (Journal × Vec Found) OpenFault → Type 0
IsOpened side limit bytes (Ok opened) = IsRead side limit bytes opened.0 opened.1.items
IsOpened side limit bytes (Err (faults.Bad s at)) = (s ≡ side) × ((rs : List Record) × Breaks (drop 17 bytes) rs × (at ≡ gate_after rs))
IsOpened side limit bytes (Err faults.Memory) = Unit {0}
IsOpened side limit bytes (Err faults.Plant) = ⊥
IsOpened side limit bytes (Err faults.Stopped) = ⊥
