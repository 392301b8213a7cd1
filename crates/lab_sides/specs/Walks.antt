-- Reading one gate after another.
use Rattle.std.specs.Prelude.{◌≡◌, ◌<◌, ◌+◌, ◌-◌, ℕ, List, [], ◌∷◌, ◌++◌, length, drop, Option, Some, None}
use Rattle.journal_rec.specs.declared.record.Record.{Record}
use Rattle.journal_rec.specs.declared.record.Found.{Found}
use Rattle.journal_rec.specs.Payloads.{IsRecord}
use Rattle.journal_rec.specs.Packing.{block}
use Rattle.journal_model.specs.Journals.{size, Reads, Breaks, Broken, gate_after}
use Rattle.journal_disk.specs.Walks.{placed}
use Rattle.lab_sides.specs.declared.walking.Ended.{Ended}
use Rattle.lab_sides.specs.declared.walking.Ended.TheVariants.{Whole, Torn}

-- a record stands behind a gate, whatever stands in the gate, and a next gate after it
pub record IsAfter (bytes : List ℕ) (r : Record) (n : ℕ) : Type 0 where
  pub is_record : IsRecord r
  pub size_is : n + 1 ≡ size r
  pub spelled : 165 ∷ bytes ≡ block r ++ drop n bytes
  pub inside : n < length bytes

-- what stands behind a gate: a record and the number of bytes up to the next gate; or nothing whole
abbrev pub IsBody : List ℕ → Option (Record × ℕ) → Type 0
IsBody bytes (Some (r, n)) = IsAfter bytes r n
IsBody bytes None = Broken bytes

-- THE RECORDS OF A SIDE behind open gates, up to a closed gate, or up to an open one after which nothing whole stands
abbrev pub IsWalk : List ℕ → Ended → Type 0
IsWalk bytes (Whole w) = (rs : List Record) × Reads (drop 17 bytes) rs × (w.found ≡ placed 17 rs) × (w.gate ≡ gate_after rs) × (w.gate < length bytes)
IsWalk bytes (Torn w) = (rs : List Record) × Breaks (drop 17 bytes) rs × (w.found ≡ placed 17 rs) × (w.gate ≡ gate_after rs)

-- WHOLE RECORDS FROM A GATE ON, whatever stands in the gates: these, one after another, and no more
abbrev pub AreThere : List ℕ → ℕ → List Found → Type 0
AreThere bytes gate [] = Broken (drop (gate + 1) bytes)
AreThere bytes gate (f ∷ fs) = (f.at ≡ gate) × IsAfter (drop (gate + 1) bytes) f.entry (size f.entry - 1) × AreThere bytes (gate + size f.entry) fs
