-- The records that an opened journal holds.
use Rattle.std.proofs.Common.{◌+◌, inl, inr, ℕ, List, [], ◌∷◌, drop, Result, Ok, Err, ap, subst}
use Rattle.std.specs.Prelude.{IfOk}
use Rattle.std.specs.Global.{Vec}
use Rattle.lab_base.specs.Lists.{Has}
use Rattle.plant.specs.declared.step.Side.{Side}
use Rattle.journal_rec.specs.Payloads.{IsRecord}
use Rattle.journal_rec.specs.declared.record.Record.{Record}
use Rattle.journal_rec.specs.declared.record.Found.{Found}
use Rattle.journal_model.specs.Journals.{Reads, size}
use Rattle.journal_disk.specs.declared.journal.Journal.{Journal}
use Rattle.journal_disk.specs.declared.fault.OpenFault.{OpenFault}
use Rattle.journal_disk.specs.Openings.{IsOpened}
use Rattle.journal_disk.specs.Walks.{placed}
use Rattle.journal_disk.specs.Standing.{Holds}

reads_records : (bytes : List ℕ) (rs : List Record) (r : Record) → Reads bytes rs → Has rs r → IsRecord r
reads_records bytes [] r reads has = absurd has
reads_records bytes (q ∷ rs) r reads (inl is) = subst IsRecord is reads.1
reads_records bytes (q ∷ rs) r reads (inr has) = reads_records reads.0 rs r reads.3 has

-- of a side that was read
pub holds_read : (side : Side) (limit : ℕ) (bytes : List ℕ) (result : Result (Journal × Vec Found) OpenFault) → IsOpened side limit bytes result
    → IfOk result (λ opened. (rs : List Record) × Holds rs opened.0 opened.1.items)
holds_read side limit bytes (Ok opened) h =
    (h.rs, record { found_so = h.found_so; are_records = λ r has. reads_records (drop 17 bytes) h.rs r h.reads has; gate = h.gate_is })
holds_read side limit bytes (Err fault) h = tt

entry_among : (gate : ℕ) (rs : List Record) (f : Found) → Has (placed gate rs) f → Has rs f.entry
entry_among gate [] f has = has
entry_among gate (r ∷ rs) f (inl is) = inl (ap (λ x. x.entry) is)
entry_among gate (r ∷ rs) f (inr has) = inr (entry_among (gate + size r) rs f has)

-- WHAT WAS FOUND in a journal are records
pub found_records : (rs : List Record) (j : Journal) (found : List Found) (f : Found) → Holds rs j found → Has found f → IsRecord f.entry
found_records rs j found f holds has = holds.are_records f.entry (entry_among 17 rs f (subst (λ l. Has l f) holds.found_so has))
