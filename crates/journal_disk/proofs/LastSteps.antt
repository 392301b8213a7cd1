-- The last step of an opening, an append or a compaction, where there is one, is a call that missed.
use Rattle.std.proofs.Common.{◌≡◌, ◌⊎◌, inl, inr, ℕ, List, [], ◌∷◌, Result, Ok, Err}
use Rattle.std.specs.Global.{Vec}
use Rattle.plant.specs.Events.{Event, Missed}
use Rattle.plant.specs.declared.step.Side.{Side}
use Rattle.journal_rec.specs.declared.record.Found.{Found}
use Rattle.journal_model.specs.Appends.{Run}
use Rattle.journal_disk.specs.declared.fault.AppendFault.{AppendFault}
use Rattle.journal_disk.specs.declared.fault.AppendFault.TheVariants as append_faults
use Rattle.journal_disk.specs.declared.fault.CompactFault.{CompactFault}
use Rattle.journal_disk.specs.declared.fault.CompactFault.TheVariants as compact_faults
use Rattle.journal_disk.specs.declared.fault.OpenFault.{OpenFault}
use Rattle.journal_disk.specs.declared.fault.OpenFault.TheVariants as open_faults
use Rattle.journal_disk.specs.declared.journal.Journal.{Journal}
use Rattle.journal_disk.specs.Compacting.{Come}
use Rattle.journal_disk.specs.Compactions.{Ends as CompactEnds}
use Rattle.journal_disk.specs.Opening.{Far, Ends as OpenEnds}
use Rattle.journal_disk.specs.Standing.{Ends}

pub opening_last : (result : Result (Journal × Vec Found) OpenFault) (a b : List ℕ) (far : Far) (more : List Event) → OpenEnds result a b far more → (more ≡ []) ⊎ ((side : Side) × (more ≡ Missed side ∷ []))
opening_last (Ok opened) a b far more h = inl h.1
opening_last (Err open_faults.Plant) a b far more h = inr h
opening_last (Err open_faults.Stopped) a b far more h = inl h
opening_last (Err (open_faults.Bad side at)) a b far more h = inl h.1
opening_last (Err open_faults.Memory) a b far more h = inl h.1

pub append_last : (side : Side) (result : Result (Unit {0}) AppendFault) (run : Run) (more : List Event) → Ends side result run more → (more ≡ []) ⊎ (more ≡ Missed side ∷ [])
append_last side (Ok done) run more h = inl h.1
append_last side (Err (append_faults.Full length size)) run more h = inl h.1
append_last side (Err append_faults.Plant) run more h = inr h
append_last side (Err append_faults.Stopped) run more h = inl h

pub compact_last : (side : Side) (result : Result (Unit {0}) CompactFault) (far : Come) (more : List Event) → CompactEnds side result far more → (more ≡ []) ⊎ (more ≡ Missed side ∷ [])
compact_last side (Ok done) far more h = inl h.1
compact_last side (Err compact_faults.Plant) far more h = inr h
compact_last side (Err compact_faults.Stopped) far more h = inl h
