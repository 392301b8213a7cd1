-- The bytes that a reader of lines takes from those that are left.
use Rattle.std.specs.Prelude.{◌≡◌, ◌⊎◌, ℕ, ◌+◌, ◌^◌, ◌<◌, ◌≤◌, Bool, true, false, List, [], ◌∷◌, ◌++◌, length, take, Option, slice_index}
use Rattle.std.specs.Io.KnownBytes.{prepend_known, IsAtEnd}
use Rattle.lab_io.specs.Feeds.{NoFeed, EndedLine, LastLine, without_return}
use Rattle.lab_io.specs.declared.reader.Line.{Line}
use Rattle.lab_io.specs.declared.reader.Line.TheVariants.{Text, End}
use Rattle.lab_io.specs.declared.reader.LineFault.{LineFault}
use Rattle.lab_io.specs.declared.reader.LineReader.{LineReader}
use Rattle.lab_io.specs.declared.lines.Found.{Found}
use Rattle.lab_io.specs.declared.lines.Found.TheVariants.{Feed, Last, Long}

abbrev pub pending_of : LineReader → List ℕ
pending_of r = r.pending.items

abbrev pub fault_of : LineReader → Option LineFault
fault_of r = r.fault

-- how many lines were taken, and how many bytes they have with their ends
abbrev pub lines_of : LineReader → ℕ
lines_of r = r.lines

abbrev pub taken_of : LineReader → ℕ
taken_of r = r.taken

abbrev pub ended_of : LineReader → Bool
ended_of r = r.ended

-- what is left to a reader: its own bytes, followed by what the source has left
abbrev pub rest_of : LineReader → Option (List ℕ) → Option (List ℕ)
rest_of r left = prepend_known (pending_of r) left

-- A line was taken from the front of what was left, with so many bytes taken before and after it. It has its end, or it
-- is the last one.
pub record TookText (old new : Option (List ℕ)) (text : List ℕ) (ended : Bool) (before after : ℕ) : Type 0 where
  pub raw : List ℕ
  pub front : old ≡ prepend_known raw new
  pub is_line : (EndedLine raw text × (ended ≡ false)) ⊎ (LastLine raw text × IsAtEnd new × (ended ≡ true))
  pub short : length text ≤ 4096
  pub counted : after ≡ before + length raw
  pub within : after ≤ 2 ^ 32

-- a line was taken, or there was none
abbrev pub Took : Option (List ℕ) → Line → Option (List ℕ) → Bool → ℕ → ℕ → Type 0
Took old (Text text) new ended before after = TookText old new text ended before after
Took old End new ended before after = (new ≡ old) × IsAtEnd new × (ended ≡ true) × (after ≡ before)

-- why the line that begins with these bytes is too long, where so many bytes come before it
pub data IsLong (before : ℕ) (body : List ℕ) (rest : Option (List ℕ)) : Type 0 where
  -- it goes on, or ends, after more than 4,096 bytes
  above : NoFeed body → 4096 < length (without_return body) → IsLong before body rest
  -- it is the last one, whose carriage return is its own
  above_last : NoFeed body → IsAtEnd rest → 4096 < length body → IsLong before body rest
  -- it goes on after the script's limit
  beyond : NoFeed body → 2 ^ 32 < before + length body → IsLong before body rest
  -- it ends there
  ends_beyond : (line : List ℕ) → body ≡ line ++ 10 ∷ [] → NoFeed line → 2 ^ 32 < before + length body → IsLong before body rest

-- what is left begins with a line that is too long
pub record IsTooLong (before : ℕ) (left : Option (List ℕ)) : Type 0 where
  pub body : List ℕ
  pub rest : Option (List ℕ)
  pub front : left ≡ prepend_known body rest
  pub long : IsLong before body rest

abbrev pub IsFound : ℕ → List ℕ → Option (List ℕ) → Found → Type 0
IsFound before pending left (Feed at) = (at < length pending) × NoFeed (take at pending) × (slice_index pending at ≡ 10)
IsFound before pending left Last = NoFeed pending × IsAtEnd left
IsFound before pending left Long = NoFeed pending × ((4097 < length pending) ⊎ (2 ^ 32 < before + length pending))

-- each line is counted
abbrev pub Counted : ℕ → Line → ℕ → Type 0
Counted old (Text text) new = new ≡ old + 1
Counted old End new = new ≡ old
