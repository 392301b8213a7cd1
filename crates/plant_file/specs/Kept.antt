-- Lines beside the text that they make up.
use Rattle.std.specs.Prelude.{◌≡◌, ℕ, true, false, List, ◌∷◌, ◌++◌, length, map, Option, Some, None}
use Rattle.std.specs.List.{list_all, list_any}
use Rattle.lab_base.specs.Lists.{Has}
use Rattle.line_text.specs.Printing.{line_text}
use Rattle.plant_file.specs.declared.entry.Entry.{Entry}
use Rattle.plant_file.specs.declared.entry.Key.{Key}
use Rattle.plant_file.specs.declared.lines_kept.Line.{Line}
use Rattle.plant_file.specs.declared.lines_kept.Spot.{Spot}
use Rattle.plant_file.specs.Entries.{is_keyed}
use Rattle.plant_file.specs.Lines.{entry_fields, tables_text}
use Rattle.plant_file.specs.Marks.{key_mark, key_of}
use Rattle.plant_file.specs.Printable.{is_printable}

abbrev pub entries_of : List Line → List Entry
entries_of lines = map (λ line. line.entry.value) lines

-- the line's size is that of its text, and its mark that of its key
pub record IsLine (line : Line) : Type 0 where
  pub size : line.size ≡ length (line_text (entry_fields line.entry.value))
  pub mark : line.mark ≡ key_mark (key_of line.entry.value)

-- the text is that of the lines
pub record AreKept (lines : List Line) (text : List ℕ) : Type 0 where
  pub is : text ≡ tables_text (entries_of lines)
  pub each : (line : Line) → Has lines line → IsLine line
  pub printable : list_all is_printable (entries_of lines) ≡ true

-- the lines before it, none of which has that key, the line of that key, and those after it
pub record IsAt (key : Key) (lines : List Line) (spot : Spot) : Type 0 where
  pub front : List Line
  pub here : Line
  pub behind : List Line
  pub is : lines ≡ front ++ here ∷ behind
  pub first : list_any (is_keyed key) (entries_of front) ≡ false
  pub keyed : is_keyed key here.entry.value ≡ true
  pub line : spot.line ≡ length front
  pub at : spot.at ≡ length (tables_text (entries_of front))

-- the first line of that key, or none has it
abbrev pub IsSpot : Key → List Line → Option Spot → Type 0
IsSpot key lines (Some spot) = IsAt key lines spot
IsSpot key lines None = list_any (is_keyed key) (entries_of lines) ≡ false
