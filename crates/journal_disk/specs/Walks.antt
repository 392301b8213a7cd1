-- Reading one gate after another.
use Rattle.std.specs.Prelude.{◌≡◌, ◌≢◌, ◌<◌, ◌+◌, ℕ, List, [], ◌∷◌, ◌++◌, length, drop, Option, Some, None, Result, Ok, Err}
use Rattle.journal_rec.specs.declared.fault.RecFault.{RecFault}
use Rattle.journal_rec.specs.declared.fault.RecFault.TheVariants as faults
use Rattle.journal_rec.specs.declared.record.Record.{Record}
use Rattle.journal_rec.specs.declared.record.Found.{Found}
use Rattle.journal_rec.specs.Payloads.{IsRecord}
use Rattle.journal_rec.specs.Packing.{block}
use Rattle.journal_model.specs.Journals.{size, Reads, Breaks, Broken, gate_after}
use Rattle.journal_disk.specs.declared.walk.Walked.{Walked}
use Rattle.journal_disk.specs.declared.walk.WalkFault.{WalkFault}
use Rattle.journal_disk.specs.declared.walk.WalkFault.TheVariants as stops

-- what stands at a gate
abbrev pub IsBlock : List ℕ → Result (Option (Record × ℕ)) RecFault → Type 0
IsBlock bytes (Ok None) = (gate : ℕ) × (rest : List ℕ) × (bytes ≡ gate ∷ rest) × (gate ≢ 165)
IsBlock bytes (Ok (Some (r, n))) = IsRecord r × (n ≡ size r) × (bytes ≡ block r ++ drop n bytes) × (n < length bytes)
IsBlock bytes (Err faults.Bad) = (rest : List ℕ) × (bytes ≡ 165 ∷ rest) × Broken rest
IsBlock bytes (Err faults.Memory) = Unit {0}

-- records with the positions of their gates, from the first one on
abbrev pub placed : ℕ → List Record → List Found
placed gate [] = []
placed gate (r ∷ rs) = record { at = gate; entry = r } ∷ placed (gate + size r) rs

-- the records of a side with a header, or the first gate after which there is none
abbrev pub IsWalk : List ℕ → Result Walked WalkFault → Type 0
IsWalk bytes (Ok walk) = (rs : List Record) × Reads (drop 17 bytes) rs × (walk.found.items ≡ placed 17 rs) × (walk.gate ≡ gate_after rs) × (walk.gate < length bytes)
IsWalk bytes (Err (stops.Bad at)) = (rs : List Record) × Breaks (drop 17 bytes) rs × (at ≡ gate_after rs)
IsWalk bytes (Err stops.Memory) = Unit {0}
