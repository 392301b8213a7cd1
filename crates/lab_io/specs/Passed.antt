-- Lines that a reader passed, and whatever follows them.
use Rattle.std.specs.Prelude.{◌≡◌, ◌⊎◌, ℕ, ◌+◌, Bool, true, false, List, [], ◌∷◌, ◌++◌, length, map, Option, Some, None}
use Rattle.std.specs.Io.KnownBytes.{prepend_known, IsAtEnd}
use Rattle.lab_io.specs.Lines.{lines_from}
use Rattle.lab_io.specs.Taken.{rest_of, ended_of, taken_of, lines_of, fault_of}
use Rattle.lab_io.specs.declared.reader.LineReader.{LineReader}

-- where a reader stands: what is left to it, whether its source has ended, and how many bytes and lines were taken
pub record Stand : Type 0 where
  pub rest : Option (List ℕ)
  pub ended : Bool
  pub taken : ℕ
  pub lines : ℕ

abbrev pub stand_of : LineReader → Option (List ℕ) → Stand
stand_of reader left = record { rest = rest_of reader left; ended = ended_of reader; taken = taken_of reader; lines = lines_of reader }

-- nothing, or lines with their line feeds
abbrev pub IsWhole : List ℕ → Type 0
IsWhole bytes = (bytes ≡ []) ⊎ ((front : List ℕ) × (bytes ≡ front ++ 10 ∷ []))

-- a reader whose source has ended has nothing left
abbrev pub IsSettled : Stand → Type 0
IsSettled stand = (stand.ended ≡ false) ⊎ IsAtEnd stand.rest

-- a reader that has met no fault, and is settled, as a new one is, and each one is after a line
abbrev pub IsReady : LineReader → Option (List ℕ) → Type 0
IsReady reader left = (fault_of reader ≡ None) × IsSettled (stand_of reader left)

-- nothing may follow where the source has ended
abbrev pub MayFollow : Stand → List ℕ → Type 0
MayFollow stand more = (stand.ended ≡ false) ⊎ (more ≡ [])

-- The lines with these texts were taken: whatever may follow them, they are the first lines, and the lines of what
-- follows come after them.
pub record Passed (old new : Stand) (texts : List (List ℕ)) : Type 0 where
  pub raw : List ℕ
  pub front : old.rest ≡ prepend_known raw new.rest
  pub ends : IsSettled new
  pub stays : new.ended ≡ false → old.ended ≡ false
  pub idle : old.ended ≡ true → raw ≡ []
  pub whole : new.ended ≡ false → IsWhole raw
  pub lines : (more : List ℕ) → MayFollow new more → lines_from old.taken (raw ++ more) ≡ map (λ t. Some t) texts ++ lines_from new.taken more
  pub number : new.lines ≡ old.lines + length texts
