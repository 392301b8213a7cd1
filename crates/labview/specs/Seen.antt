-- The file of the tables, as a look finds it.
use Rattle.std.specs.Prelude.{ℕ, nat_lt, List, length, Option, Some, None, Result, Ok, Err}
use Rattle.lab_base.specs.declared.fault.TextFault.{TextFault}
use Rattle.plant_file.specs.declared.entry.Entry.{Entry}
use Rattle.plant_file.specs.Lines.{tables_of_text}
use Rattle.lab_look.specs.declared.tables.TablesSeen.{TablesSeen}

abbrev pub fault_of : Result (List Entry) TextFault → Option TextFault
fault_of (Ok entries) = None
fault_of (Err fault) = Some fault

-- WHAT IS KNOWN OF A TEXT OF TABLES: whether it has lines, and the fault of the first one of another form
abbrev pub seen_of : List ℕ → TablesSeen
seen_of text = record { rows = nat_lt 0 (length text); fault = fault_of (tables_of_text text) }
