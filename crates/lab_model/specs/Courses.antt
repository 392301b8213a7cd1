-- The commands of a move, and how a course of them goes.
use Rattle.std.specs.Prelude.{◌≡◌, ◌+◌, ◌==◌, ℕ, Bool, true, false, not, ◌||◌, ◌&&◌, if◌then◌else◌, List, [], ◌∷◌, ◌++◌, map, filter, Option, Some, None, Result, Ok, Err}
use Rattle.std.specs.List.{flat_map, enumerate_from}
use Rattle.std.specs.Option.{unwrap_or}
use Rattle.lab_base.specs.declared.boot.Boot.{Boot}
use Rattle.lab_base.specs.declared.boot.Boot.TheVariants.{Off, Shutdown, Booting, TbSetup, IsUp}
use Rattle.phys_lab.specs.Labs.{Lab}
use Rattle.virt_topo.specs.declared.experiment.Experiment.{Experiment}
use Rattle.virt_topo.specs.declared.mapping.Mapped.{Mapped}
use Rattle.plant.specs.Worlds.{Row, PipeRow}
use Rattle.plant.specs.declared.device.Answer.{Answer}
use Rattle.plant.specs.declared.device.Answer.TheVariants.{Done, State}
use Rattle.plant.specs.declared.device.Fault.{Fault}
use Rattle.plant.specs.declared.device.Fault.TheVariants.{Failed, Stopped}
use Rattle.plant.specs.declared.device.DeviceOp.{DeviceOp}
use Rattle.plant.specs.declared.device.DeviceOp.TheVariants.{Join, Leave, Shape, Load, Boot as BootIt, Poll, Wipe}
use Rattle.lab_model.specs.Wants.{Owned, rows_of, pipes_on, os_on}
use Rattle.lab_model.specs.Claims.{is_placed, Claims, IsOf}
use Rattle.lab_model.specs.Kept.{is_kept}

-- the row that the command joins or leaves
abbrev pub op_row : DeviceOp → Option Row
op_row (Join switch port vlan) = Some (record { switch = switch; port = port; vlan = vlan.0 })
op_row (Leave switch port vlan) = Some (record { switch = switch; port = port; vlan = vlan.0 })
op_row op = None

-- the node that the command goes to
abbrev pub op_node : DeviceOp → Option (List ℕ)
op_node (Shape node number from to there back) = Some node
op_node (Load node os) = Some node
op_node (BootIt node) = Some node
op_node (Poll node) = Some node
op_node (Wipe node) = Some node
op_node op = None

-- the command is of the experiment: its row is wanted by a mapping that it claims, or its node is claimed
pub record IsCommandOf (lab : Lab) (e : Experiment) (op : DeviceOp) : Type 0 where
  pub row : (row : Row) → op_row op ≡ Some row → IsOf lab e row
  pub node : (name : List ℕ) → op_node op ≡ Some name → Claims lab e name

-- the commands of a move; each Boot is followed by its Polls
pub record Plan : Type 0 where
  pub clear : List DeviceOp
  pub cable : List DeviceOp
  pub load : List DeviceOp
  pub boot : List (List ℕ)

-- the commands that join a row and leave it
abbrev pub join : Owned → DeviceOp
join o = Join o.row.switch o.row.port (record { 0 = o.row.vlan })

abbrev pub leave : Owned → DeviceOp
leave o = Leave o.row.switch o.row.port (record { 0 = o.row.vlan })

-- the rows of a mapping, if there is one
abbrev pub rows_from : Lab → Option Mapped → List Owned
rows_from lab None = []
rows_from lab (Some m) = rows_of lab m

-- the nodes in the lab's order
abbrev pub node_names : Lab → List (List ℕ)
node_names lab = map (λ n. n.name) lab.nodes

-- the command that sets a numbered pipe
abbrev pub shape : List ℕ → ℕ × PipeRow → DeviceOp
shape node p = Shape node p.0 p.1.from p.1.to p.1.there p.1.back

-- Load the node, and Shape its pipes
abbrev pub load_node : Lab → Mapped → List ℕ → List DeviceOp
load_node lab m name = Load name (unwrap_or (os_on lab m.wiring.nodes m.mapping.places name) []) ∷ map (shape name) (enumerate_from 0 (pipes_on lab m name))

-- the same of these nodes
abbrev pub load_nodes : Lab → Option Mapped → List (List ℕ) → List DeviceOp
load_nodes lab None names = []
load_nodes lab (Some m) names = flat_map (load_node lab m) names

-- the nodes of a mapping that aren't kept, in the lab's order
abbrev pub fresh : Lab → Option Mapped → Option Mapped → Option Mapped → List (List ℕ)
fresh lab old new side = filter (λ name. is_placed lab side name && not (is_kept lab old new name)) (node_names lab)

-- the commands of a move from the old mapping to the new one, either of which may be missing
abbrev pub commands : Lab → Option Mapped → Option Mapped → Plan
commands lab old new = record {
  clear = map leave (rows_from lab old) ++ map Wipe (fresh lab old new old);
  cable = map join (rows_from lab new);
  load = load_nodes lab new (fresh lab old new new);
  boot = fresh lab old new new;
}

-- the undo of a move
abbrev pub undo : Lab → Option Mapped → Option Mapped → Plan
undo lab old new = record {
  clear = map leave (rows_from lab new) ++ map Wipe (filter (λ name. (is_placed lab old name || is_placed lab new name) && not (is_kept lab old new name)) (node_names lab));
  cable = map join (rows_from lab old);
  load = load_nodes lab old (fresh lab old new old);
  boot = fresh lab old new old;
}

-- boot states of which the second may follow the first
abbrev pub lawful : Boot → Boot → Bool
lawful Off Off = true
lawful Off Booting = true
lawful Shutdown Shutdown = true
lawful Shutdown Off = true
lawful Shutdown Booting = true
lawful Booting Booting = true
lawful Booting TbSetup = true
lawful Booting Shutdown = true
lawful TbSetup TbSetup = true
lawful TbSetup IsUp = true
lawful TbSetup Booting = true
lawful IsUp IsUp = true
lawful IsUp Shutdown = true
lawful a b = false

-- why a course is cut
pub data Trouble : Type 0 where
  Device : (name : List ℕ) → Trouble
  Late : (node : List ℕ) → Trouble
  Unlawful : (node : List ℕ) (from to : Boot) → Trouble

-- a node that is watched since its Boot, with its state and its number of polls
pub record Watch : Type 0 where
  pub node : List ℕ
  pub state : Boot
  pub polls : ℕ

-- what is left of a course: commands, nodes to boot, and perhaps a watched node
pub record Left : Type 0 where
  pub todo : List DeviceOp
  pub boot : List (List ℕ)
  pub watch : Option Watch

-- all of a plan is left
abbrev pub whole : Plan → Left
whole plan = record { todo = plan.clear ++ plan.cable ++ plan.load; boot = plan.boot; watch = None }

-- the command that comes next, if any is left
abbrev pub next : List DeviceOp → Option Watch → List (List ℕ) → Option DeviceOp
next (op ∷ todo) watch boot = Some op
next [] (Some w) boot = Some (Poll w.node)
next [] None (node ∷ boot) = Some (BootIt node)
next [] None [] = None

-- the device that a command goes to: a switch or a node
abbrev pub device : DeviceOp → List ℕ
device (Join switch port vlan) = switch
device (Leave switch port vlan) = switch
device (Shape node number from to there back) = node
device (Load node os) = node
device (BootIt node) = node
device (Poll node) = node
device (Wipe node) = node

-- a course goes on, is cut, or is ended by a stop
pub data Course : Type 0 where
  Going : Left → Course
  Cut : Trouble → Course
  Halted : Course

-- a failure cuts the course, and a stop ends it
abbrev pub fault_of : List ℕ → Fault → Course
fault_of name Failed = Cut (Device name)
fault_of name Stopped = Halted

-- what a watch says of a lawful state, and of any state
abbrev pub judged : Watch → Boot → List (List ℕ) → Course
judged w IsUp boot = Going (record { todo = []; boot = boot; watch = None })
judged w state boot = if w.polls + 1 == 64 then Cut (Late w.node) else Going (record { todo = []; boot = boot; watch = Some (record { node = w.node; state = state; polls = w.polls + 1 }) })

-- what a watch says of any state: an unlawful pair comes first
abbrev pub seen : Watch → Boot → List (List ℕ) → Course
seen w state boot = if lawful w.state state then judged w state boot else Cut (Unlawful w.node w.state state)

-- the course after the next command was answered
abbrev pub answered : List DeviceOp → Option Watch → List (List ℕ) → Result Answer Fault → Course
answered (op ∷ todo) watch boot (Ok answer) = Going (record { todo = todo; boot = boot; watch = watch })
answered (op ∷ todo) watch boot (Err fault) = fault_of (device op) fault
answered [] (Some w) boot (Ok (State state)) = seen w state boot
answered [] (Some w) boot (Ok Done) = Halted
answered [] (Some w) boot (Err fault) = fault_of w.node fault
answered [] None (node ∷ boot) (Ok answer) = Going (record { todo = []; boot = boot; watch = Some (record { node = node; state = Booting; polls = 0 }) })
answered [] None (node ∷ boot) (Err fault) = fault_of node fault
answered [] None [] answer = Going (record { todo = []; boot = []; watch = None })

-- these commands with their answers make a course end so
abbrev pub Goes : List (DeviceOp × Result Answer Fault) → Course → Course → Type 0
Goes [] course end = course ≡ end
Goes (c ∷ cs) (Going left) end = (next left.todo left.watch left.boot ≡ Some c.0) × Goes cs (answered left.todo left.watch left.boot c.1) end
Goes (c ∷ cs) (Cut what) end = ⊥
Goes (c ∷ cs) Halted end = ⊥

-- the end of a course
abbrev pub nothing_left : Left
nothing_left = record { todo = []; boot = []; watch = None }

-- the course is done; it is cut by that trouble
abbrev pub IsDone : Plan → List (DeviceOp × Result Answer Fault) → Type 0
IsDone plan cs = Goes cs (Going (whole plan)) (Going nothing_left)

abbrev pub IsCut : Plan → List (DeviceOp × Result Answer Fault) → Trouble → Type 0
IsCut plan cs what = Goes cs (Going (whole plan)) (Cut what)

-- the row that the command adds, and the pipe that it sets: node, number, pipe
abbrev pub op_join : DeviceOp → Option Row
op_join (Join switch port vlan) = Some (record { switch = switch; port = port; vlan = vlan.0 })
op_join op = None

abbrev pub op_pipe : DeviceOp → Option (List ℕ × ℕ × PipeRow)
op_pipe (Shape node number from to there back) = Some (node, number, record { from = from; to = to; there = there; back = back })
op_pipe op = None
