-- HOW MANY DEVICE COMMANDS are sent at most, by the rows, nodes and pipes of the mappings between which an experiment moves.
use Rattle.std.specs.Prelude.{◌+◌, ◌*◌, ℕ, true, false, Bool, length, filter, List, [], ◌∷◌, Option, Some, None}
use Rattle.std.specs.List.{flat_map}
use Rattle.phys_lab.specs.Labs.{Lab}
use Rattle.virt_topo.specs.declared.mapping.Mapped.{Mapped}
use Rattle.plant.specs.Events.{Event, Did}
use Rattle.lab_model.specs.Claims.{places_it}
use Rattle.lab_model.specs.Courses.{node_names, rows_from}
use Rattle.lab_model.specs.Wants.{pipes_on}
use Rattle.swap_turns.specs.Legs.{Leg, Forth, Settling, commits}
use Rattle.swap_turns.specs.Swaps.{Swap}

-- the device commands among these steps
abbrev pub commands_in : List Event → ℕ
commands_in [] = 0
commands_in (Did op applied answer ∷ events) = commands_in events + 1
commands_in (event ∷ events) = commands_in events

-- the nodes of the lab on which a mapping places something
abbrev pub placed : Lab → Mapped → List (List ℕ)
placed lab m = filter (places_it lab m) (node_names lab)

-- THE NUMBERS OF A MAPPING: the rows that it wants, its nodes, and the pipes on these; none where there is no mapping
abbrev pub rows_in : Lab → Option Mapped → ℕ
rows_in lab side = length (rows_from lab side)

abbrev pub nodes_in : Lab → Option Mapped → ℕ
nodes_in lab None = 0
nodes_in lab (Some m) = length (placed lab m)

abbrev pub pipes_in : Lab → Option Mapped → ℕ
pipes_in lab None = 0
pipes_in lab (Some m) = length (flat_map (pipes_on lab m) (placed lab m))

-- to clear one: a Leave for each row, and a Wipe for each node
abbrev pub to_clear : Lab → Option Mapped → ℕ
to_clear lab side = rows_in lab side + nodes_in lab side

-- to build one: a Join for each row, a Shape for each pipe, and for each node a Load, a Boot and 64 Polls
abbrev pub to_build : Lab → Option Mapped → ℕ
to_build lab side = rows_in lab side + 66 * nodes_in lab side + pipes_in lab side

-- AT MOST SO MANY of a move from the old mapping to the new one, and of its undo
abbrev pub most_forth : Lab → Option Mapped → Option Mapped → ℕ
most_forth lab old new = to_clear lab old + to_build lab new

abbrev pub most_back : Lab → Option Mapped → Option Mapped → ℕ
most_back lab old new = to_clear lab new + nodes_in lab old + to_build lab old

abbrev pub most_by : Lab → Option Mapped → Option Mapped → Bool → ℕ
most_by lab old new true = most_forth lab old new
most_by lab old new false = most_back lab old new

-- a swap-out has no undo
abbrev pub most_after : Lab → Option Mapped → Option Mapped → ℕ
most_after lab old None = 0
most_after lab old (Some m) = most_back lab old (Some m)

-- AT MOST SO MANY of a swap from the start of a leg to its end: where that is the way forth, its undo is among them
abbrev pub most_from : Lab → Swap → Leg → ℕ
most_from lab p Forth = most_forth lab p.old p.new + most_after lab p.old p.new
most_from lab p leg = most_by lab p.old p.new (commits p leg)

-- to settle all of these
abbrev pub most_settled : Lab → List Swap → ℕ
most_settled lab [] = 0
most_settled lab (p ∷ ps) = most_from lab p Settling + most_settled lab ps
