-- The text of a lab, after its ptop text.
use Rattle.std.specs.Prelude.{ℕ, ◌+◌, ◌-◌, ◌&&◌, Bool, nat_lt, is_none, if◌then◌else◌, List, [], ◌∷◌, ◌++◌, length, codes, decimal, flat_map, Option, Some, None}
use Rattle.std.specs.List.{list_any, range_with_len}
use Rattle.lab_view.specs.declared.view.View.{View}
use Rattle.lab_view.specs.declared.view.Machine.{Machine}
use Rattle.lab_view.specs.declared.view.Trunk.{Trunk}
use Rattle.lab_view.specs.declared.view.Exp.{Exp}
use Rattle.lab_view.specs.declared.view.Seat.{Seat}
use Rattle.lab_view.specs.declared.view.Held.{Held}
use Rattle.lab_view.specs.declared.view.Held.TheVariants as helds
use Rattle.lab_view.specs.declared.view.Stand.{Stand}
use Rattle.lab_view.specs.declared.view.Stand.TheVariants as stands
use Rattle.lab_view.specs.Views.{is_under, is_lone, count_under, free_under, free_machines, free_ids, switch_name, exp_name}
use Rattle.lab_view.specs.Runs.{owner_at, begins_run, run_length}

abbrev pub held_word : Held → List ℕ
held_word helds.Stands = codes " in "
held_word helds.Comes = codes " comes "
held_word helds.Goes = codes " goes "
held_word helds.Stays = codes " stays "

-- a blank and a name
abbrev pub spaced : List ℕ → List ℕ
spaced name = 32 ∷ name

abbrev pub seat_words : View → Option Seat → List ℕ
seat_words v None = codes " free"
seat_words v (Some s) = held_word s.held ++ exp_name v s.exp ++ flat_map spaced s.hosted

-- A MACHINE, with who holds it and which virtual nodes are there
abbrev pub machine_line : View → Machine → List ℕ
machine_line v m = codes "machine " ++ m.name ++ seat_words v m.seat ++ 10 ∷ []

abbrev pub line_under : View → ℕ → Machine → List ℕ
line_under v switch m = if is_under switch m then machine_line v m else []

abbrev pub lone_line : View → Machine → List ℕ
lone_line v m = if is_lone m then machine_line v m else []

-- A SWITCH, with how many of its machines are free, and its machines
abbrev pub switch_lines : View → ℕ → List ℕ
switch_lines v switch = codes "switch " ++ switch_name v switch ++ 32 ∷ [] ++ decimal (free_under v switch) ++ codes " of " ++ decimal (count_under v switch) ++ codes " free\n"
    ++ flat_map (line_under v switch) v.machines

-- THE MACHINES WITHOUT AN INTERFACE, under a heading of their own, if there are any
abbrev pub has_lone : View → Bool
has_lone v = list_any is_lone v.machines

unfoldable pub lone_head : List ℕ
lone_head = codes "switch none\n"

abbrev pub lone_part : View → List ℕ
lone_part v = lone_head ++ flat_map (lone_line v) v.machines

abbrev pub lone_lines : View → List ℕ
lone_lines v = if has_lone v then lone_part v else []

-- what is left of a trunk
unfoldable pub left_of : Trunk → ℕ
left_of t = t.kbps - t.used

unfoldable pub unit_words : List ℕ
unit_words = codes " kbps left\n"

abbrev pub total_words : ℕ → List ℕ
total_words kbps = codes " of " ++ decimal kbps ++ unit_words

abbrev pub left_words : Trunk → List ℕ
left_words t = 32 ∷ [] ++ decimal (left_of t) ++ total_words t.kbps

-- A TRUNK, with what is left of it
abbrev pub trunk_line : View → Trunk → List ℕ
trunk_line v t = codes "trunk " ++ t.link ++ 32 ∷ [] ++ switch_name v t.first ++ 32 ∷ [] ++ switch_name v t.second ++ left_words t

-- a run of ids: ` 100-103`, or ` 107`
abbrev pub run_words : ℕ → ℕ → List ℕ
run_words first count = if nat_lt 1 count then 32 ∷ decimal first ++ 45 ∷ decimal (first + count - 1) else 32 ∷ decimal first

abbrev pub free_run : View → ℕ → List ℕ
free_run v k = if begins_run v.owners k && is_none (owner_at v.owners k) then run_words (v.low + k) (run_length v.owners k) else []

-- THE FREE VLAN IDS, run by run
abbrev pub ids_line : View → List ℕ
ids_line v = codes "ids free" ++ flat_map (free_run v) (range_with_len 0 (length v.owners)) ++ 10 ∷ []

-- an experiment that moves, and which way
abbrev pub way_words : List ℕ → Stand → List ℕ
way_words name stands.Comes = codes "moves " ++ name ++ codes " in\n"
way_words name stands.Goes = codes "moves " ++ name ++ codes " out\n"
way_words name stands.Changes = codes "moves " ++ name ++ codes " change\n"
way_words name stand = []

abbrev pub move_line : Exp → List ℕ
move_line e = way_words e.name e.stand

abbrev pub phase_word : Stand → List ℕ
phase_word stands.Out = codes " out "
phase_word stands.In = codes " in "
phase_word stand = codes " moving "

-- AN EXPERIMENT, with the numbers of machines and of VLAN ids that it claims; after it which way it moves
abbrev pub exp_line : Exp → List ℕ
exp_line e = codes "exp " ++ e.name ++ phase_word e.stand ++ decimal e.nodes ++ 32 ∷ [] ++ decimal e.ids ++ 10 ∷ []

abbrev pub exp_lines : Exp → List ℕ
exp_lines e = exp_line e ++ move_line e

-- the numbers of free machines and of free VLAN ids
abbrev pub free_line : View → List ℕ
free_line v = codes "free " ++ decimal (free_machines v) ++ 32 ∷ [] ++ decimal (free_ids v) ++ 10 ∷ []

-- THE TEXT OF A LAB after its ptop text
abbrev pub lines_of : View → List ℕ
lines_of v = flat_map (switch_lines v) (range_with_len 0 (length v.switches)) ++ lone_lines v ++ flat_map (trunk_line v) v.trunks ++ ids_line v
    ++ flat_map exp_lines v.experiments ++ free_line v
