-- The next line of what is left to a reader, which it has not taken.
use Rattle.std.specs.Prelude.{◌≡◌, ◌⊎◌, ℕ, ◌+◌, ◌^◌, ◌≤◌, List, length, Option}
use Rattle.std.specs.Io.KnownBytes.{prepend_known, IsAtEnd}
use Rattle.lab_io.specs.Feeds.{EndedLine, LastLine}
use Rattle.lab_io.specs.Taken.{IsTooLong}

-- a line with this text stands at the front, with so many bytes taken before it
pub record IsNext (rest : Option (List ℕ)) (before : ℕ) (text : List ℕ) : Type 0 where
  pub raw : List ℕ
  pub behind : Option (List ℕ)
  pub front : rest ≡ prepend_known raw behind
  pub is_line : EndedLine raw text ⊎ (LastLine raw text × IsAtEnd behind)
  pub short : length text ≤ 4096
  pub within : before + length raw ≤ 2 ^ 32

-- no line stands there, or one that is too long
abbrev pub HasNoText : ℕ → Option (List ℕ) → Type 0
HasNoText before rest = IsAtEnd rest ⊎ IsTooLong before rest
