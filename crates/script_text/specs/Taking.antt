-- The calls that read a command, and the reader after them.
use Rattle.std.specs.Prelude.{◌≡◌, ◌⊎◌, ◌+◌, ◌<◌, ◌≤◌, ℕ, max, false, List, [], ◌∷◌, ◌++◌, length, map, Some, None}
use Rattle.std.specs.List.{flat_map}
use Rattle.std.specs.Io.KnownBytes.{IsAtEnd}
use Rattle.lab_io.specs.Lines.{lines_from}
use Rattle.lab_io.specs.Passed.{Stand, Passed}
use Rattle.lab_io.specs.Taken.{pending_of}
use Rattle.lab_io.specs.declared.reader.LineReader.{LineReader}
use Rattle.script_text.specs.Commands.{Lines, Found, Got, End, Bad, command_at, next_of}
use Rattle.script_text.specs.declared.heads.Head.{Head}
use Rattle.script_text.specs.declared.command.Command.{Command}
use Rattle.script_text.specs.declared.next.Next.{Next}
use Rattle.script_text.specs.declared.next.Next.TheVariants as nexts

abbrev pub known : List (List ℕ) → Lines
known texts = map (λ t. Some t) texts

-- the next line is too long; it is missing, or too long
abbrev pub StartsLong : Lines → Type 0
StartsLong [] = ⊥
StartsLong (None ∷ lines) = Unit {0}
StartsLong (Some line ∷ lines) = ⊥

abbrev pub NoLine : Lines → Type 0
NoLine [] = Unit {0}
NoLine (None ∷ lines) = Unit {0}
NoLine (Some line ∷ lines) = ⊥

-- it is so where a reader stands
abbrev pub HasLong : Stand → Type 0
HasLong stand = (bytes : List ℕ) → stand.rest ≡ Some bytes → StartsLong (lines_from stand.taken bytes)

abbrev pub HasNoLine : Stand → Type 0
HasNoLine stand = (bytes : List ℕ) → stand.rest ≡ Some bytes → NoLine (lines_from stand.taken bytes)

-- lines one after another, each with a line feed
abbrev pub joined : List (List ℕ) → List ℕ
joined texts = flat_map (λ t. t ++ 10 ∷ []) texts

-- lines were passed that are skipped
pub record Skipped (old new : Stand) : Type 0 where
  pub texts : List (List ℕ)
  pub passed : Passed old new texts
  pub onwards : (more : Lines) → next_of old.lines (known texts ++ more) ≡ next_of new.lines more

-- lines were passed, of which the last one begins a command and the others are skipped
pub record Begun (old new : Stand) (head : Head) : Type 0 where
  pub texts : List (List ℕ)
  pub passed : Passed old new texts
  pub begins : (more : Lines) → next_of old.lines (known texts ++ more) ≡ command_at head new.lines more

-- a block of so many lines was passed
pub record Blocked (old new : Stand) (count : ℕ) (text : List ℕ) : Type 0 where
  pub texts : List (List ℕ)
  pub passed : Passed old new texts
  pub all : length texts ≡ count
  pub text_is : text ≡ joined texts

-- fewer lines were passed
pub record Fewer (old mid : Stand) (count : ℕ) : Type 0 where
  pub texts : List (List ℕ)
  pub passed : Passed old mid texts
  pub few : length texts < count

-- and then there was no line, where the one of that number has to be
pub record IsShort (old : Stand) (count line : ℕ) : Type 0 where
  pub mid : Stand
  pub some : Fewer old mid count
  pub none : HasNoLine mid
  pub line_is : line ≡ mid.lines + 1

-- and then the reading failed
pub record IsCut (old new : Stand) (count : ℕ) : Type 0 where
  pub mid : Stand
  pub some : Fewer old mid count
  pub same : new.rest ≡ mid.rest
  pub more : mid.ended ≡ false

-- the lines after a head were passed, and the command is whole
pub record Completes (old new : Stand) (head : Head) (command : Command) : Type 0 where
  pub texts : List (List ℕ)
  pub passed : Passed old new texts
  pub gives : (more : Lines) → command_at head old.lines (known texts ++ more) ≡ Got command new.lines more

-- of the command that begins so the line of that number is missing or too long
abbrev pub IsBadAt : Stand → Head → ℕ → Type 0
IsBadAt stand head line = (bytes : List ℕ) → stand.rest ≡ Some bytes → command_at head stand.lines (lines_from stand.taken bytes) ≡ Bad line

-- the reading failed before the command was whole
pub record IsHalf (old new : Stand) (head : Head) : Type 0 where
  pub mid : Stand
  pub texts : List (List ℕ)
  pub passed : Passed old mid texts
  pub same : new.rest ≡ mid.rest
  pub more : mid.ended ≡ false
  pub half : command_at head old.lines (known texts) ≡ Bad (mid.lines + 1)

-- the line of that number is the first that is not in the grammar
abbrev pub IsBad : Stand → ℕ → Type 0
IsBad stand line = (bytes : List ℕ) → stand.rest ≡ Some bytes → next_of stand.lines (lines_from stand.taken bytes) ≡ Bad line

-- a command was read, or there was none
abbrev pub Reads : Stand → Next → Stand → Type 0
Reads old (nexts.Command c) new = (texts : List (List ℕ)) × Passed old new texts × ((more : Lines) → next_of old.lines (known texts ++ more) ≡ Got c new.lines more)
Reads old nexts.End new = (texts : List (List ℕ)) × Passed old new texts × IsAtEnd new.rest × (next_of old.lines (known texts) ≡ End)

-- the lines that were taken are no whole command yet
abbrev pub Unfinished : Found → ℕ → Type 0
Unfinished found number = (found ≡ End) ⊎ (found ≡ Bad (number + 1))

pub record IsUnfinished (old new : Stand) : Type 0 where
  pub mid : Stand
  pub texts : List (List ℕ)
  pub passed : Passed old mid texts
  pub same : new.rest ≡ mid.rest
  pub more : mid.ended ≡ false
  pub unfinished : Unfinished (next_of old.lines (known texts)) mid.lines

-- a line is not after what is found: the last line of the command, or the one that is not in the grammar
abbrev pub IsWithin : ℕ → Found → Type 0
IsWithin line (Got command number rest) = line ≤ number
IsWithin line End = Unit {0}
IsWithin line (Bad number) = line ≤ number

-- lines were passed, of which none is after what is found there, whatever follows, and what is left was left after them
pub record NoFurther (find : ℕ → Lines → Found) (old new : Stand) : Type 0 where
  pub mid : Stand
  pub texts : List (List ℕ)
  pub passed : Passed old mid texts
  pub same : new.rest ≡ mid.rest
  pub within : (more : Lines) → IsWithin mid.lines (find old.lines (known texts ++ more))

-- so many lines of a block were passed at most, and what is left was left after them
pub record NoLonger (old new : Stand) (count : ℕ) : Type 0 where
  pub mid : Stand
  pub texts : List (List ℕ)
  pub passed : Passed old mid texts
  pub same : new.rest ≡ mid.rest
  pub few : length texts ≤ count

-- a command takes a byte at least
abbrev pub GoesOn : Next → ℕ → ℕ → Type 0
GoesOn (nexts.Command c) before after = before < after
GoesOn nexts.End before after = Unit {0}

-- a reader has no more bytes ahead than it had, or than the longest line with a piece that was read after it
abbrev pub HoldsNoMore : LineReader → LineReader → Type 0
HoldsNoMore old new = length (pending_of new) ≤ max (length (pending_of old)) 8193
