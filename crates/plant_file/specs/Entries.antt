-- The tables after commands.
use Rattle.std.specs.Prelude.{ℕ, Bool, false, not, ◌&&◌, ◌==◌, List, [], ◌∷◌, ◌++◌, filter, Option, Some, None}
use Rattle.std.specs.List.{find}
use Rattle.std.specs.Str.{bytes_eq}
use Rattle.lab_base.specs.declared.boot.Boot.{Boot}
use Rattle.lab_base.specs.declared.boot.Boot.TheVariants.{Off, Booting, TbSetup, IsUp}
use Rattle.plant.specs.declared.device.DeviceOp.{DeviceOp}
use Rattle.plant.specs.declared.device.DeviceOp.TheVariants.{Join, Leave, Shape, Load, Boot as BootIt, Poll, Wipe}
use Rattle.plant.specs.declared.device.Answer.{Answer}
use Rattle.plant.specs.declared.device.Answer.TheVariants.{Done, State}
use Rattle.plant.specs.Worlds as worlds
use Rattle.plant_file.specs.declared.entry.Entry.{Entry}
use Rattle.plant_file.specs.declared.entry.Entry.TheVariants.{Row, Bare, Node, Pipe}
use Rattle.plant_file.specs.declared.entry.Key.{Key}
use Rattle.plant_file.specs.declared.entry.Key.TheVariants as keys

-- the entry is the row of that port and that VLAN
abbrev pub is_row : List ℕ → ℕ → ℕ → Entry → Bool
is_row switch port vlan (Row own at id) = worlds.is_row switch port vlan (record { switch = own; port = at; vlan = id.0 })
is_row switch port vlan entry = false

-- the entry has the boot state of the node
abbrev pub is_node : List ℕ → Entry → Bool
is_node name (Bare node state) = bytes_eq node name
is_node name (Node node state os) = bytes_eq node name
is_node name entry = false

-- the entry is the node's pipe of that number
abbrev pub is_pipe : List ℕ → ℕ → Entry → Bool
is_pipe name at (Pipe node number from to there back) = bytes_eq node name && (number == at)
is_pipe name at entry = false

-- the entry says something of the node
abbrev pub is_of : List ℕ → Entry → Bool
is_of name (Row switch port vlan) = false
is_of name (Bare node state) = bytes_eq node name
is_of name (Node node state os) = bytes_eq node name
is_of name (Pipe node number from to there back) = bytes_eq node name

-- the entry has that key
abbrev pub is_keyed : Key → Entry → Bool
is_keyed (keys.Row switch port vlan) entry = is_row switch port vlan.0 entry
is_keyed (keys.Node node) entry = is_node node entry
is_keyed (keys.Pipe node number) entry = is_pipe node number entry
is_keyed (keys.Of node) entry = is_of node entry

abbrev pub state_or_off : Option Entry → Boot
state_or_off (Some (Bare node state)) = state
state_or_off (Some (Node node state os)) = state
state_or_off entry = Off

abbrev pub os_or_none : Option Entry → Option (List ℕ)
os_or_none (Some (Node node state os)) = Some os
os_or_none entry = None

-- the boot state and the OS of a node; a node that the tables don't have is off, and has none
abbrev pub state_in : List ℕ → List Entry → Boot
state_in name entries = state_or_off (find (is_node name) entries)

abbrev pub os_in : List ℕ → List Entry → Option (List ℕ)
os_in name entries = os_or_none (find (is_node name) entries)

-- what a poll makes of a state
abbrev pub moved : Boot → Boot
moved Booting = TbSetup
moved TbSetup = IsUp
moved state = state

-- the entries that don't pass a test
abbrev pub without : (Entry → Bool) → List Entry → List Entry
without test entries = filter (λ entry. not (test entry)) entries

-- the entry of a node
abbrev pub entry_of_node : List ℕ → Boot → Option (List ℕ) → Entry
entry_of_node node state None = Bare node state
entry_of_node node state (Some os) = Node node state os

-- a node's boot state and OS, set
abbrev pub with_node : List ℕ → Boot → Option (List ℕ) → List Entry → List Entry
with_node node state os entries = without (is_node node) entries ++ entry_of_node node state os ∷ []

-- THE TABLES AFTER A COMMAND
abbrev pub after : DeviceOp → List Entry → List Entry
after (Join switch port vlan) entries = without (is_row switch port vlan.0) entries ++ Row switch port vlan ∷ []
after (Leave switch port vlan) entries = without (is_row switch port vlan.0) entries
after (Shape node number from to there back) entries = without (is_pipe node number) entries ++ Pipe node number from to there back ∷ []
after (Load node os) entries = with_node node Off (Some os) entries
after (BootIt node) entries = with_node node Booting (os_in node entries) entries
after (Poll node) entries = with_node node (moved (state_in node entries)) (os_in node entries) entries
after (Wipe node) entries = without (is_of node) entries

-- its answer
abbrev pub answer_of : DeviceOp → List Entry → Answer
answer_of (Poll node) entries = State (moved (state_in node entries))
answer_of op entries = Done
