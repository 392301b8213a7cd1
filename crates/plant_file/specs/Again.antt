-- Texts of tables are read back.
use Rattle.std.specs.Prelude.{◌≡◌, true, List, Ok}
use Rattle.std.specs.List.{list_all}
use Rattle.plant_file.specs.declared.entry.Entry.{Entry}
use Rattle.plant_file.specs.Lines.{tables_text, tables_of_text}
use Rattle.plant_file.specs.Printable.{is_printable}

-- the text of tables whose parts can be printed is of those tables
abbrev pub TablesAgain : Type 0
TablesAgain = (entries : List Entry) → list_all is_printable entries ≡ true → tables_of_text (tables_text entries) ≡ Ok entries
