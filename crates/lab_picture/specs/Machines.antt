-- Machines, as they are drawn.
use Rattle.std.specs.Prelude.{ℕ, Bool, true, ◌+◌, ◌-◌, ◌*◌, ◌/◌, ◌%◌, ◌==◌, nat_le, if◌then◌else◌, List, [], ◌∷◌, ◌++◌, length, map, flat_map, codes, decimal, take, slice_get, Option, Some, None}
use Rattle.std.specs.List.{list_any, list_all, range_with_len}
use Rattle.lab_view.specs.declared.view.View.{View}
use Rattle.lab_view.specs.declared.view.Machine.{Machine}
use Rattle.lab_view.specs.declared.view.Seat.{Seat}
use Rattle.lab_view.specs.declared.view.Held.{Held}
use Rattle.lab_view.specs.declared.view.Held.TheVariants as helds
use Rattle.lab_view.specs.declared.flags.Flag.{Flag}
use Rattle.lab_view.specs.Views.{switch_name, exp_name}
use Rattle.lab_view.specs.Flags.{flag_of_exp}
use Rattle.lab_view.specs.Lines.{spaced}
use Rattle.lab_picture.specs.declared.geometry.Bounds.{Bounds}
use Rattle.lab_picture.specs.declared.geometry.Geometry.{Geometry}
use Rattle.lab_picture.specs.declared.shapes.Area.{Area}
use Rattle.lab_picture.specs.declared.tags.Piece.TheVariants as tags
use Rattle.lab_picture.specs.Tags.{tag}
use Rattle.lab_picture.specs.Places.{bounds_at}
use Rattle.lab_picture.specs.Shapes.{area_of, rect, filled, label, fitted}

-- the eight tints, and the eight colours of bars
unfoldable pub tint_word : ℕ → List ℕ
tint_word n = if n == 0 then codes "#7eb3cd" else if n == 1 then codes "#ffcb88" else if n == 2 then codes "#beecba" else if n == 3 then codes "#bab4fc"
    else if n == 4 then codes "#f48da1" else if n == 5 then codes "#4ad4c0" else if n == 6 then codes "#fbd3f8" else codes "#b5af7a"

unfoldable pub bar_word : ℕ → List ℕ
bar_word n = if n == 0 then codes "#003357" else if n == 1 then codes "#b5820a" else if n == 2 then codes "#878f6d" else if n == 3 then codes "#6a24a0"
    else if n == 4 then codes "#9d0001" else if n == 5 then codes "#1789fd" else if n == 6 then codes "#e74dac" else codes "#5a1a23"

-- a part of a bar, which begins so far below the top and is so high
unfoldable pub part : List ℕ → Area → ℕ → ℕ → List ℕ
part colour a top high = filled colour (codes "bare") (record { x = a.x; y = a.y + top; wide = a.wide; high = high })

-- the parts of a bar by its form, in a machine and in the list of experiments
unfoldable pub large_parts : List ℕ → Area → ℕ → List ℕ
large_parts colour a n = if n == 0 then part colour a 1 42 else if n == 1 then part colour a 1 19 ++ part colour a 24 19
    else if n == 2 then part colour a 1 11 ++ part colour a 16 11 ++ part colour a 31 11
    else part colour a 1 7 ++ part colour a 12 7 ++ part colour a 23 7 ++ part colour a 34 7

unfoldable pub small_parts : List ℕ → Area → ℕ → List ℕ
small_parts colour a n = if n == 0 then part colour a 1 13 else if n == 1 then part colour a 1 5 ++ part colour a 8 5
    else if n == 2 then part colour a 1 3 ++ part colour a 6 3 ++ part colour a 11 3
    else part colour a 1 1 ++ part colour a 4 1 ++ part colour a 7 1 ++ part colour a 10 1

unfoldable pub parts_of : Bool → List ℕ → Area → ℕ → List ℕ
parts_of large colour a n = if large then large_parts colour a n else small_parts colour a n

-- how far a bar of a form stands from the left edge, and how wide it is
unfoldable pub indent_of : ℕ → ℕ
indent_of n = if n == 0 then 1 else if n == 1 then 1 else if n == 2 then 4 else 3

unfoldable pub wide_of : ℕ → ℕ
wide_of n = if n == 0 then 7 else if n == 1 then 4 else if n == 2 then 4 else 3

-- THE BAR OF A FLAG, on white
unfoldable pub bar_area : Flag → Bounds → Area
bar_area f p = record { x = p.x + indent_of (f.form / 4); y = p.y; wide = wide_of (f.form / 4); high = 0 }

unfoldable pub ground_area : Bool → Bounds → Area
ground_area large p = record { x = p.x + 1; y = p.y + 1; wide = 9; high = if large then 42 else 13 }

unfoldable pub bar : Bool → Flag → Bounds → List ℕ
bar large f p = filled (codes "#fff") (codes "bare") (ground_area large p) ++ parts_of large (bar_word f.bar) (bar_area f p) (f.form % 4)

-- the class of the edge of what is held so, and the stripes over its tint
abbrev pub edge_of : Held → List ℕ
edge_of helds.Stands = codes "held"
edge_of held = codes "move"

abbrev pub stripes : Held → Area → List ℕ
stripes helds.Comes a = filled (codes "url(#comes)") (codes "move") a
stripes helds.Goes a = filled (codes "url(#goes)") (codes "move") a
stripes held a = []

-- A BOX IN THE COLOUR OF AN EXPERIMENT: its tint, stripes where it comes or goes, and its bar
unfoldable pub tinted : Bool → Flag → Held → Bounds → List ℕ
tinted large f held p = filled (tint_word f.tint) (edge_of held) (area_of p) ++ stripes held (area_of p) ++ bar large f p

-- where there is no flag, the box of what is free
unfoldable pub coloured : Bool → Option Flag → Held → Bounds → List ℕ
coloured large None held p = rect (codes "free") (area_of p)
coloured large (Some f) held p = tinted large f held p

-- names one after another, where they fit so many letters; else the first one, and how many more there are
abbrev pub names_text : List (List ℕ) → List ℕ
names_text [] = []
names_text (name ∷ names) = name ++ flat_map spaced names

unfoldable pub first_name : ℕ → List (List ℕ) → List ℕ
first_name most [] = []
first_name most (name ∷ names) = fitted (most - 5) name ++ codes " +" ++ decimal (length names)

unfoldable pub listed : ℕ → List (List ℕ) → List ℕ
listed most names = if nat_le (length (names_text names)) most then names_text names else first_name most names

-- how many letters of the size of 9 fit a machine
unfoldable pub letters_in : ℕ → ℕ
letters_in wide = (wide - 18) * 100 / 542

-- what a pointer over a machine tells: its name, its types, the switches of its interfaces, and who holds it
abbrev pub type_words : List ℕ × ℕ → List ℕ
type_words t = 32 ∷ t.0 ++ 58 ∷ decimal t.1

-- a switch is named at the first interface that is on it
abbrev pub plug_words : View → List ℕ → Option ℕ → List ℕ
plug_words v before None = []
plug_words v before (Some switch) = if list_any (λ m. m == switch) before then [] else 32 ∷ switch_name v switch

abbrev pub plug_at : View → List ℕ → ℕ → List ℕ
plug_at v plugs n = plug_words v (take n plugs) (slice_get plugs n)

unfoldable pub holder_words : View → Option Seat → List ℕ
holder_words v None = []
holder_words v (Some s) = 10 ∷ exp_name v s.exp ++ flat_map spaced s.hosted

unfoldable pub tip : View → Machine → List ℕ
tip v m = tag tags.Title ++ m.name ++ flat_map type_words m.types ++ codes "\non" ++ flat_map (plug_at v m.plugs) (range_with_len 0 (length m.plugs))
    ++ holder_words v m.seat ++ tag tags.TitleEnd

-- a free machine, with its types; and one that is held, with the experiment and the virtual nodes
unfoldable pub free_body : Bounds → Machine → List ℕ
free_body p m = rect (codes "free") (area_of p) ++ label (codes "f") (p.x + 14) (p.y + 19) m.name ++ label (codes "k") (p.x + 14) (p.y + 33) (listed (letters_in p.wide) (map (λ t. t.0) m.types))

unfoldable pub held_words : View → Bounds → Machine → Seat → List ℕ
held_words v p m s = label (codes "m") (p.x + 14) (p.y + 14) m.name ++ label (codes "e") (p.x + 14) (p.y + 26) (fitted (letters_in p.wide) (exp_name v s.exp)) ++ label (codes "v") (p.x + 14) (p.y + 38) (listed (letters_in p.wide) s.hosted)

unfoldable pub held_body : View → Bounds → Machine → Seat → List ℕ
held_body v p m s = coloured true (flag_of_exp v s.exp) s.held p ++ held_words v p m s

unfoldable pub body : View → Bounds → Machine → Option Seat → List ℕ
body v p m None = free_body p m
body v p m (Some s) = held_body v p m s

-- a dark corner: it has interfaces on more than one switch
abbrev pub first_of : Option ℕ → ℕ
first_of None = 0
first_of (Some n) = n

abbrev pub is_one : List ℕ → Bool
is_one plugs = list_all (λ m. m == first_of (slice_get plugs 0)) plugs

unfoldable pub corner : Bounds → List ℕ
corner p = tag tags.Also ++ decimal (p.x + p.wide) ++ 32 ∷ [] ++ decimal p.y ++ tag tags.Corner

abbrev pub corner_if_several : Bounds → List ℕ → List ℕ
corner_if_several p plugs = if is_one plugs then [] else corner p

-- the head of a group: a machine of an experiment that moves has its words on white
abbrev pub held_class : Held → List ℕ
held_class helds.Stands = tag tags.Group
held_class held = tag tags.Moving

abbrev pub class_of : Option Seat → List ℕ
class_of None = tag tags.Group
class_of (Some s) = held_class s.held

-- A MACHINE: where it is held, in the colour of the experiment that holds it, and else in none
abbrev pub machine_text : View → Bounds → Machine → List ℕ
machine_text v p m = class_of m.seat ++ tip v m ++ body v p m m.seat ++ corner_if_several p m.plugs ++ tag tags.GroupEnd

abbrev pub machine_in : View → Bounds → Option Machine → List ℕ
machine_in v p None = []
machine_in v p (Some m) = machine_text v p m

abbrev pub machine_at : Geometry → View → ℕ → List ℕ
machine_at g v n = machine_in v (bounds_at g.cells n) (slice_get v.machines n)
