-- Records in one piece, as a side of the journal holds them after its header.
use Rattle.std.specs.Prelude.{◌≡◌, ◌+◌, ℕ, List, [], ◌∷◌, ◌++◌, length}
use Rattle.std.specs.List.{flat_map}
use Rattle.lab_base.specs.Lists.{Has}
use Rattle.journal_rec.specs.Payloads.{le, payload, IsRecord}
use Rattle.journal_rec.specs.declared.record.Record.{Record}

-- a record behind an open gate
abbrev pub block : Record → List ℕ
block r = 165 ∷ le 4 (length (payload r)) ++ payload r

-- the records' blocks, one after another
abbrev pub blocks : List Record → List ℕ
blocks rs = flat_map block rs

-- the bytes are these records, each behind its open gate, and a closed gate after the last
pub record ArePacked (bytes : List ℕ) (rs : List Record) : Type 0 where
  pub are_records : (r : Record) → Has rs r → IsRecord r
  pub spelled : bytes ≡ blocks rs ++ 0 ∷ []

-- how long a side with a header and these bytes is
abbrev pub side_length : List ℕ → ℕ
side_length bytes = 17 + length bytes
