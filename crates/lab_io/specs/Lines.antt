-- The lines of a script.
use Rattle.std.specs.Prelude.{ℕ, ◌+◌, ◌^◌, ◌==◌, ◌||◌, nat_lt, List, [], ◌∷◌, length, Option, Some, None, if◌then◌else◌}
use Rattle.std.specs.List.{slice_split}
use Rattle.std.specs.Str.Lines.{strip_carriage_return}

-- A line: its text, or nothing where it is too long: it has more than 4,096 bytes, or it ends beyond byte 2 ^ 32 of the
-- script, where so many bytes come before it, and it has so many with its end.
abbrev pub line_of : ℕ → List ℕ → ℕ → Option (List ℕ)
line_of before text size = if nat_lt 4096 (length text) || nat_lt (2 ^ 32) (before + size) then None else Some text

-- what stands between line feeds: each is a line without its line feed, and the last one is a line where it has a byte
abbrev pub lines_between : ℕ → List (List ℕ) → List (Option (List ℕ))
lines_between before [] = []
lines_between before ([] ∷ []) = []
lines_between before ((byte ∷ last) ∷ []) = line_of before (byte ∷ last) (length (byte ∷ last)) ∷ []
lines_between before (part ∷ next ∷ parts) = line_of before (strip_carriage_return part) (length part + 1) ∷ lines_between (before + (length part + 1)) (next ∷ parts)

-- the lines of bytes before which so many others stand; a carriage return before a line feed belongs to the line's end
abbrev pub lines_from : ℕ → List ℕ → List (Option (List ℕ))
lines_from before bytes = lines_between before (slice_split (λ b. b == 10) bytes)

-- THE LINES OF A SCRIPT
abbrev pub script_lines : List ℕ → List (Option (List ℕ))
script_lines bytes = lines_from 0 bytes
