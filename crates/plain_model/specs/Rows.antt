-- Rows and nodes after commands.
use Rattle.std.specs.Prelude.{ℕ, Bool, false, List, [], ◌∷◌, fold, Option, Some, None, if◌then◌else◌}
use Rattle.std.specs.List.{flat_map}
use Rattle.lab_base.specs.declared.boot.Boot.{Boot}
use Rattle.plant.specs.declared.device.DeviceOp.{DeviceOp}
use Rattle.plant.specs.declared.device.DeviceOp.TheVariants.{Join, Shape}
use Rattle.plant.specs.Events.{Event, Did}
use Rattle.plant.specs.Worlds.{Row, PipeRow, NodeRow, World, blank, row_after, node_after, node_polled, world_after}
use Rattle.plain_model.specs.Isolation.{PipeEnds}
use Rattle.plain_model.specs.declared.world.Sent.{Sent}

-- the commands of a trace, each with whether it was applied, and its answer
abbrev pub commands_of : List Event → List Sent
commands_of [] = []
commands_of (Did op applied answer ∷ events) = record { op = op; applied = applied; answer = answer } ∷ commands_of events
commands_of (event ∷ events) = commands_of events

-- the world after these commands
abbrev pub sent_to : World → Sent → World
sent_to w sent = world_after w (Did sent.op sent.applied sent.answer)

abbrev pub world_sent : List Sent → World
world_sent commands = fold sent_to blank commands

-- whether the row stands after one command more, and after these
abbrev pub row_then : Row → Bool → Sent → Bool
row_then row had sent = if sent.applied then row_after sent.op row had else had

abbrev pub has_row : List Sent → Row → Bool
has_row commands row = fold (row_then row) false commands

-- what a node holds after one command more
abbrev pub node_then : List ℕ → NodeRow → Sent → NodeRow
node_then name had sent = node_polled sent.op sent.answer name (if sent.applied then node_after sent.op name had else had)

-- its OS, its boot state, and its pipe of that number, which depend on nothing else of it
abbrev pub os_then : List ℕ → Option (List ℕ) → Sent → Option (List ℕ)
os_then name had sent = (node_then name (record { os = had; pipes = λ k. None; boot = None }) sent).os

abbrev pub boot_then : List ℕ → Option Boot → Sent → Option Boot
boot_then name had sent = (node_then name (record { os = None; pipes = λ k. None; boot = had }) sent).boot

abbrev pub pipe_then : List ℕ → ℕ → Option PipeRow → Sent → Option PipeRow
pipe_then name k had sent = (node_then name (record { os = None; pipes = λ j. had; boot = None }) sent).pipes k

abbrev pub node_sent : List Sent → List ℕ → NodeRow
node_sent commands name = (world_sent commands).node name

-- the row that the command joins, if it stands after all commands
abbrev pub row_seen : List Sent → Row → List Row
row_seen commands row = if has_row commands row then row ∷ [] else []

abbrev pub rows_by : List Sent → DeviceOp → List Row
rows_by commands (Join switch port vlan) = row_seen commands (record { switch = switch; port = port; vlan = vlan.0 })
rows_by commands op = []

-- the rows that some command joined and that stand
abbrev pub rows_of : List Sent → List Sent → List Row
rows_of commands sent = flat_map (λ s. rows_by commands s.op) sent

-- the pipe of a node, as isolation sees it
abbrev pub pipe_seen : List ℕ → Option PipeRow → List PipeEnds
pipe_seen node None = []
pipe_seen node (Some pipe) = record { node = node; from = pipe.from; to = pipe.to } ∷ []

-- the pipe that the command sets, as it stands after all commands
abbrev pub pipes_by : List Sent → DeviceOp → List PipeEnds
pipes_by commands (Shape node number from to there back) = pipe_seen node (fold (pipe_then node number) None commands)
pipes_by commands op = []

-- the pipes that some command set and that stand
abbrev pub pipes_of : List Sent → List Sent → List PipeEnds
pipes_of commands sent = flat_map (λ s. pipes_by commands s.op) sent
