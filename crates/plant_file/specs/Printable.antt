-- Entries that the printer can print: names that are names, and numbers that the program can hold.
use Rattle.std.specs.Prelude.{ℕ, Bool, ◌&&◌, nat_le, List}
use Rattle.lab_base.specs.Names.{is_name}
use Rattle.line_text.specs.Rates.{are_held}
use Rattle.plant_file.specs.declared.entry.Entry.{Entry}
use Rattle.plant_file.specs.declared.entry.Entry.TheVariants.{Row, Bare, Node, Pipe}

abbrev pub are_pipe_ends : List ℕ → ℕ → List ℕ → List ℕ → Bool
are_pipe_ends node number from to = is_name node && (nat_le number 65535 && (is_name from && is_name to))

abbrev pub is_printable : Entry → Bool
is_printable (Row switch port vlan) = is_name switch && (nat_le port 65535 && nat_le vlan.0 65535)
is_printable (Bare node state) = is_name node
is_printable (Node node state os) = is_name node && is_name os
is_printable (Pipe node number from to there back) = are_pipe_ends node number from to && (are_held there && are_held back)
