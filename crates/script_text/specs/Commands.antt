-- The commands of a script.
use Rattle.std.specs.Prelude.{◌≡◌, ◌+◌, ℕ, zero, suc, List, [], ◌∷◌, ◌++◌, Option, Some, None}
use Rattle.lab_io.specs.Lines.{script_lines}
use Rattle.script_text.specs.Heads.{completed, both_completed, said_of}
use Rattle.script_text.specs.declared.heads.Head.{Head}
use Rattle.script_text.specs.declared.heads.Head.TheVariants as heads
use Rattle.script_text.specs.declared.heads.Said.{Said}
use Rattle.script_text.specs.declared.heads.Said.TheVariants.{Skipped, Unknown, Begins}
use Rattle.script_text.specs.declared.command.Command.{Command}

-- lines of a script, of which each has a text or is too long
abbrev pub Lines : Type 0
Lines = List (Option (List ℕ))

-- what a block of so many lines is: its text, the number of its last line and the lines after it; or the first line
-- that is missing or too long
pub data Block : Type 0 where
  Whole : (text : List ℕ) (number : ℕ) (rest : Lines) → Block
  Short : (line : ℕ) → Block

-- the block that begins after line `number`, with what was read of it already
abbrev pub block : ℕ → List ℕ → ℕ → Lines → Block
block zero text number lines = Whole text number lines
block (suc k) text number [] = Short (number + 1)
block (suc k) text number (None ∷ lines) = Short (number + 1)
block (suc k) text number (Some line ∷ lines) = block k (text ++ line ++ 10 ∷ []) (number + 1) lines

-- the next command with the number of its last line and the lines after it; or the end; or the first line that is not
-- in the grammar
pub data Found : Type 0 where
  Got : (command : Command) (number : ℕ) (rest : Lines) → Found
  End : Found
  Bad : (line : ℕ) → Found

-- what is found after a block with its text, unless a line of it is missing or too long
abbrev pub behind : Block → (List ℕ → ℕ → Lines → Found) → Found
behind (Whole text number rest) onwards = onwards text number rest
behind (Short line) onwards = Bad line

-- the command that begins at line `number`
abbrev pub command_at : Head → ℕ → Lines → Found
command_at (heads.Whole command) number lines = Got command number lines
command_at (heads.Block what k) number lines = behind (block k [] number lines) (λ text. Got (completed what k text))
command_at (heads.Blocks what k m) number lines = behind (block k [] number lines) (λ text after rest. behind (block m [] after rest) (λ other. Got (both_completed what k text m other)))

-- what is found at a line by what it says: a skipped line leaves the matter to what is found after it
abbrev pub found_by : Said → ℕ → Lines → Found → Found
found_by Skipped number lines onwards = onwards
found_by Unknown number lines onwards = Bad number
found_by (Begins head) number lines onwards = command_at head number lines

-- the next command after line `number`
abbrev pub next_of : ℕ → Lines → Found
next_of number [] = End
next_of number (None ∷ lines) = Bad (number + 1)
next_of number (Some line ∷ lines) = found_by (said_of line) (number + 1) lines (next_of (number + 1) lines)

-- how a script ends
pub data Ending : Type 0 where
  AtEnd : Ending
  BadLine : (line : ℕ) → Ending

abbrev pub ending : Ending → Found
ending AtEnd = End
ending (BadLine line) = Bad line

-- these are the commands after line `number`, up to the end or the first line that is not in the grammar
abbrev pub AreCommands : ℕ → Lines → List Command → Ending → Type 0
AreCommands number lines [] end = next_of number lines ≡ ending end
AreCommands number lines (c ∷ commands) end = (after : ℕ) × (rest : Lines) × (next_of number lines ≡ Got c after rest) × AreCommands after rest commands end

-- THE COMMANDS OF A SCRIPT
abbrev pub IsScript : List ℕ → List Command → Ending → Type 0
IsScript bytes commands end = AreCommands 0 (script_lines bytes) commands end
