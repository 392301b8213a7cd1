-- Entries of one switch, and of one node.
use Rattle.std.specs.Prelude.{ℕ, List, Option, Some, None, if◌then◌else◌}
use Rattle.std.specs.Str.{bytes_eq}
use Rattle.plant.specs.declared.pipe_row.PipeRow.{PipeRow}
use Rattle.plant_file.specs.declared.entry.Entry.{Entry}
use Rattle.plant_file.specs.declared.entry.Entry.TheVariants.{Row, Pipe}

-- port and VLAN id of an entry that is a row of the switch
abbrev pub pair_on : List ℕ → Entry → Option (ℕ × ℕ)
pair_on name (Row switch port vlan) = if bytes_eq switch name then Some (port, vlan.0) else None
pair_on name entry = None

-- the number of an entry that is a pipe of the node
abbrev pub number_on : List ℕ → Entry → Option ℕ
number_on name (Pipe node number from to there back) = if bytes_eq node name then Some number else None
number_on name entry = None

-- the pipe of an entry, with its number
abbrev pub numbered : Option Entry → Option PipeRow
numbered (Some (Pipe node number from to there back)) = Some (record { pipe = number; from = from; to = to; there = there; back = back })
numbered entry = None
