-- The boot states and the OS of nodes that a plant in memory keeps.
use Rattle.std.specs.Prelude.{◌≡◌, ◌<◌, ℕ, Bool, List, Option, Some, None, length, slice_index_or, if◌then◌else◌}
use Rattle.std.specs.Cmp.Lexicographic.{slice_cmp}
use Rattle.std.specs.List.{find}
use Rattle.std.specs.Ordering.{nat_cmp}
use Rattle.std.specs.declared.cmp.Ordering.TheVariants.{Less}
use Rattle.std.specs.Str.{bytes_eq}
use Rattle.lab_base.specs.declared.boot.Boot.{Boot}
use Rattle.lab_base.specs.declared.boot.Boot.TheVariants.{Off, Booting, TbSetup, IsUp}
use Rattle.plant.specs.declared.device.DeviceOp.{DeviceOp}
use Rattle.plant.specs.declared.device.DeviceOp.TheVariants.{Load, Boot as BootIt, Poll, Wipe}
use Rattle.plant.specs.declared.device.Answer.{Answer}
use Rattle.plant.specs.declared.device.Answer.TheVariants.{Done, State}
use Rattle.plant_mem.specs.declared.boot_step.BootStep.{BootStep}
use Rattle.plant_mem.specs.declared.boot_step.BootStep.TheVariants.{Moves, Hangs, Jumps}
use Rattle.plant_mem.specs.declared.nodes.NodeState.{NodeState}

-- the entry is the node's
abbrev pub is_of : List ℕ → NodeState → Bool
is_of node entry = bytes_eq entry.node node

abbrev pub state_or_off : Option NodeState → Boot
state_or_off None = Off
state_or_off (Some entry) = entry.state

-- the boot state that a table has for a node; a node that it doesn't have is off
abbrev pub state_in : List ℕ → List NodeState → Boot
state_in node entries = state_or_off (find (is_of node) entries)

-- the OS that a table has for a node
abbrev pub os_or_none : Option NodeState → Option (List ℕ)
os_or_none None = None
os_or_none (Some entry) = entry.os

abbrev pub os_in : List ℕ → List NodeState → Option (List ℕ)
os_in node entries = os_or_none (find (is_of node) entries)

-- entries stand by their nodes' names, so that no name stands twice
abbrev pub NodesRise : List NodeState → Type 0
NodesRise entries = (i j : ℕ) (d : NodeState) → i < j → j < length entries → slice_cmp nat_cmp (slice_index_or entries i d).node (slice_index_or entries j d).node ≡ Less

-- what a poll makes of a state
abbrev pub moved : Boot → Boot
moved Booting = TbSetup
moved TbSetup = IsUp
moved state = state

-- the same where the node hangs, or jumps
abbrev pub moved_by : BootStep → Boot → Boot
moved_by Moves state = moved state
moved_by Hangs state = state
moved_by Jumps state = IsUp

-- the named node's boot state after a command that was applied; a poll moves as is told
abbrev pub state_after : DeviceOp → BootStep → List ℕ → Boot → Boot
state_after (Load node os) boot_step name state = if bytes_eq node name then Off else state
state_after (BootIt node) boot_step name state = if bytes_eq node name then Booting else state
state_after (Poll node) boot_step name state = if bytes_eq node name then moved_by boot_step state else state
state_after (Wipe node) boot_step name state = if bytes_eq node name then Off else state
state_after op boot_step name state = state

-- the same of a command that may not have been applied
abbrev pub state_sent : DeviceOp → BootStep → Bool → List ℕ → Boot → Boot
state_sent op boot_step applied name state = if applied then state_after op boot_step name state else state

-- the named node's OS after a command that was applied
abbrev pub os_after : DeviceOp → List ℕ → Option (List ℕ) → Option (List ℕ)
os_after (Load node os) name had = if bytes_eq node name then Some os else had
os_after (Wipe node) name had = if bytes_eq node name then None else had
os_after op name had = had

-- the answer of a command that is done, by the state that its node had
abbrev pub answer_of : DeviceOp → BootStep → (List ℕ → Boot) → Answer
answer_of (Poll node) boot_step state = State (moved_by boot_step (state node))
answer_of op boot_step state = Done
