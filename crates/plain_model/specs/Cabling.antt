-- Cabled as a test over commands.
use Rattle.std.specs.Prelude.{ℕ, Bool, true, false, not, ◌&&◌, ◌||◌, List, [], length, fold, slice_get, Option, Some, None, is_none, if◌then◌else◌}
use Rattle.std.specs.List.{list_any, list_all}
use Rattle.std.specs.Str.{bytes_eq}
use Rattle.std.specs.Cmp.Lexicographic.{pointwise}
use Rattle.lab_base.specs.declared.boot.Boot.{Boot}
use Rattle.lab_base.specs.declared.boot.Boot.TheVariants.{Off, IsUp}
use Rattle.phys_lab.specs.Labs.{Lab}
use Rattle.virt_topo.specs.declared.mapping.Mapped.{Mapped}
use Rattle.virt_topo.specs.declared.wiring.Wiring.{Wiring}
use Rattle.virt_topo.specs.declared.experiment.Experiment.{Experiment}
use Rattle.virt_topo.specs.declared.experiment.Phase.{Phase}
use Rattle.virt_topo.specs.declared.experiment.Phase.TheVariants.{Out, In, Moving}
use Rattle.virt_topo.specs.Wirings.{mapped}
use Rattle.plant.specs.declared.device.DeviceOp.{DeviceOp}
use Rattle.plant.specs.declared.device.DeviceOp.TheVariants.{Shape}
use Rattle.plant.specs.Worlds.{PipeRow, NodeRow}
use Rattle.lab_model.specs.Wants.{node_name, os_on, pipes_on, rows_of}
use Rattle.lab_model.specs.Kept.{same_pipe, same_os}
use Rattle.lab_model.specs.Beside.{is_claimed}
use Rattle.lab_model.specs.Courses.{op_node}
use Rattle.swap_plan.specs.Plans.{both_os}
use Rattle.plain_model.specs.declared.world.Sent.{Sent}
use Rattle.plain_model.specs.Holds.{all_pass}
use Rattle.plain_model.specs.Isolation.{same_row, wanted_in}
use Rattle.plain_model.specs.Rows.{has_row, rows_of as rows_left, os_then, boot_then, pipe_then}

-- a boot state that is known, and is up or off
abbrev pub is_state : Option Boot → Bool → Bool
is_state (Some IsUp) up = up
is_state (Some Off) up = not up
is_state state up = false

abbrev pub state_of : Bool → Boot
state_of true = IsUp
state_of false = Off

-- two pipes that may be there
abbrev pub same_some : Option PipeRow → Option PipeRow → Bool
same_some None None = true
same_some (Some a) (Some b) = same_pipe a b
same_some a b = false

-- what commands leave of a node
abbrev pub os_left : List Sent → List ℕ → Option (List ℕ)
os_left commands name = fold (os_then name) None commands

abbrev pub boot_left : List Sent → List ℕ → Option Boot
boot_left commands name = fold (boot_then name) (Some Off) commands

abbrev pub pipe_left : List Sent → List ℕ → ℕ → Option PipeRow
pipe_left commands name k = fold (pipe_then name k) None commands

-- the node's pipe of that number is the one of the list
abbrev pub is_pipe : List Sent → List ℕ → List PipeRow → ℕ → Bool
is_pipe commands name pipes k = same_some (pipe_left commands name k) (slice_get pipes k)

-- a pipe, if there is one, is the one of that number of one of two lists
abbrev pub is_of_one : List PipeRow → List PipeRow → ℕ → Option PipeRow → Bool
is_of_one old new k None = true
is_of_one old new k (Some row) = same_some (Some row) (slice_get old k) || same_some (Some row) (slice_get new k)

-- so is the pipe that the command set, if it was on that node
abbrev pub is_set_of : List Sent → List ℕ → List PipeRow → List PipeRow → DeviceOp → Bool
is_set_of commands name old new (Shape node number from to there back) = not (bytes_eq name node) || is_of_one old new number (pipe_left commands name number)
is_set_of commands name old new op = true

abbrev pub are_sets_of : List Sent → List ℕ → List PipeRow → List PipeRow → Bool
are_sets_of commands name old new = list_all (λ sent. is_set_of commands name old new sent.op) commands

-- a node with that OS, which is up or off, and these pipes
abbrev pub held : Option (List ℕ) → Bool → List PipeRow → NodeRow
held os up pipes = record { os = os; pipes = slice_get pipes; boot = Some (state_of up) }

-- the node is like that
abbrev pub is_node : List Sent → List ℕ → Option (List ℕ) → Bool → List PipeRow → Bool
is_node commands name os up pipes =
    same_os (os_left commands name) os
    && (is_state (boot_left commands name) up
    && (all_pass (length pipes) (is_pipe commands name pipes)
    && are_sets_of commands name pipes pipes))

-- the OS and the pipes that the mapping, if there is one, wants on the node
abbrev pub os_wanted : Lab → Option Mapped → List ℕ → Option (List ℕ)
os_wanted lab None name = None
os_wanted lab (Some m) name = os_on lab m.wiring.nodes m.mapping.places name

abbrev pub pipes_wanted : Lab → Option Mapped → List ℕ → List PipeRow
pipes_wanted lab None name = []
pipes_wanted lab (Some m) name = pipes_on lab m name

-- a node with an OS is exactly as that is wanted
abbrev pub is_right : List Sent → List ℕ → Option (List ℕ) → List PipeRow → Bool
is_right commands name os pipes = is_none os || is_node commands name os true pipes

-- the same OS and the same pipes are wanted before and then
abbrev pub stays : Option (List ℕ) → List PipeRow → Option (List ℕ) → List PipeRow → Bool
stays os pipes os' pipes' = both_os os os' && pointwise same_pipe pipes pipes'

-- during a move a node that stays is exactly as wanted; each pipe of any other that one of both mappings claims is wanted by one
abbrev pub is_moving_right : List Sent → List ℕ → Option (List ℕ) → List PipeRow → Option (List ℕ) → List PipeRow → Bool
is_moving_right commands name os pipes os' pipes' =
    if stays os pipes os' pipes' then is_node commands name os' true pipes' else ((is_none os && is_none os') || are_sets_of commands name pipes pipes')

-- a node is as a phase wants it
abbrev pub is_right_in : List Sent → Lab → Wiring → Phase → List ℕ → Bool
is_right_in commands lab wiring Out name = true
is_right_in commands lab wiring (In mapping tags) name = is_right commands name (os_on lab wiring.nodes mapping.places name) (pipes_on lab (mapped wiring mapping tags) name)
is_right_in commands lab wiring (Moving old new) name =
    is_moving_right commands name (os_wanted lab old name) (pipes_wanted lab old name) (os_wanted lab new name) (pipes_wanted lab new name)

abbrev pub is_right_at : List Sent → Lab → Experiment → ℕ → Bool
is_right_at commands lab e node = is_right_in commands lab e.wiring e.phase (node_name lab (record { 0 = node }))

-- all rows of an experiment that is in stand
abbrev pub rows_stand : List Sent → Lab → Wiring → Phase → Bool
rows_stand commands lab wiring (In mapping tags) = list_all (λ o. has_row commands o.row) (rows_of lab (mapped wiring mapping tags))
rows_stand commands lab wiring phase = true

-- rows and nodes of an experiment are as its phase wants them
abbrev pub is_cabled_by : List Sent → Lab → Experiment → Bool
is_cabled_by commands lab e = rows_stand commands lab e.wiring e.phase && all_pass (length lab.nodes) (is_right_at commands lab e)

-- each row that stands is wanted
abbrev pub all_wanted : List Sent → Lab → List Experiment → Bool
all_wanted commands lab es = list_all (λ p. list_any (λ a. same_row p a.row) (wanted_in lab es)) (rows_left commands commands)

-- a node that no claim has is wiped
abbrev pub is_free_wiped : List Sent → Lab → List Experiment → Option (List ℕ) → Bool
is_free_wiped commands lab es None = true
is_free_wiped commands lab es (Some name) = is_claimed lab es name || is_node commands name None false []

abbrev pub are_free_wiped : List Sent → Lab → List Experiment → Bool
are_free_wiped commands lab es = list_all (λ sent. is_free_wiped commands lab es (op_node sent.op)) commands

-- CABLED, as a test
abbrev pub is_cabled : List Sent → Lab → List Experiment → Bool
is_cabled commands lab es = all_wanted commands lab es && (list_all (is_cabled_by commands lab) es && are_free_wiped commands lab es)
