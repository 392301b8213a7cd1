-- Numbers by which lines are found.
use Rattle.std.specs.Prelude.{ℕ, ◌+◌, ◌*◌, ◌%◌, List, [], ◌∷◌}
use Rattle.plant_file.specs.declared.entry.Entry.{Entry}
use Rattle.plant_file.specs.declared.entry.Entry.TheVariants.{Row, Bare, Node, Pipe}
use Rattle.plant_file.specs.declared.entry.Key.{Key}
use Rattle.plant_file.specs.declared.entry.Key.TheVariants as keys

-- a number of the bytes after others that have one
abbrev pub mark_on : ℕ → List ℕ → ℕ
mark_on mark [] = mark
mark_on mark (byte ∷ bytes) = mark_on ((mark * 31 + byte) % 4294967291) bytes

abbrev pub name_mark : List ℕ → ℕ
name_mark name = mark_on 0 name

abbrev pub row_mark : List ℕ → ℕ → ℕ → ℕ
row_mark switch port vlan = name_mark switch + (port * 65536 + vlan) * 4294967296

-- the mark of what a command is about
abbrev pub key_mark : Key → ℕ
key_mark (keys.Row switch port vlan) = row_mark switch port vlan.0
key_mark (keys.Node node) = name_mark node
key_mark (keys.Pipe node number) = name_mark node
key_mark (keys.Of node) = name_mark node

-- the key that an entry has and no other one
abbrev pub key_of : Entry → Key
key_of (Row switch port vlan) = keys.Row switch port vlan
key_of (Bare node state) = keys.Node node
key_of (Node node state os) = keys.Node node
key_of (Pipe node number from to there back) = keys.Pipe node number
