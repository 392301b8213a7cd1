-- The lists below a lab: its VLAN ids, and its experiments.
use Rattle.std.specs.Prelude.{ℕ, false, ◌+◌, ◌-◌, max, ◌==◌, if◌then◌else◌, List, [], ◌++◌, length, flat_map, codes, decimal, slice_get, Option, Some, None}
use Rattle.std.specs.List.{range_with_len}
use Rattle.lab_view.specs.declared.view.View.{View}
use Rattle.lab_view.specs.declared.view.Exp.{Exp}
use Rattle.lab_view.specs.declared.view.Held.{Held}
use Rattle.lab_view.specs.declared.view.Held.TheVariants as helds
use Rattle.lab_view.specs.declared.view.Stand.{Stand}
use Rattle.lab_view.specs.declared.view.Stand.TheVariants as stands
use Rattle.lab_view.specs.declared.flags.Flag.{Flag}
use Rattle.lab_view.specs.Views.{exp_name, free_ids}
use Rattle.lab_view.specs.Runs.{owner_at, begins_run, run_length}
use Rattle.lab_view.specs.Flags.{flag_of_exp}
use Rattle.lab_picture.specs.declared.geometry.Bounds.{Bounds}
use Rattle.lab_picture.specs.declared.geometry.Point.{Point}
use Rattle.lab_picture.specs.declared.geometry.Geometry.{Geometry}
use Rattle.lab_picture.specs.declared.shapes.Area.{Area}
use Rattle.lab_picture.specs.declared.tags.Piece.TheVariants as tags
use Rattle.lab_picture.specs.Tags.{tag}
use Rattle.lab_picture.specs.Places.{point_at, mark_at}
use Rattle.lab_picture.specs.Shapes.{area_of, rect, filled, label}
use Rattle.lab_picture.specs.Machines.{tint_word, bar_word, coloured}

-- how wide a run of so many ids is on the strip, at least 2 pixels
unfoldable pub run_wide : Geometry → ℕ → ℕ → ℕ
run_wide g k n = max (mark_at g.marks (k + n) - mark_at g.marks k) 2

-- a run in the colours of its owner's bar and tint
unfoldable pub run_area : Geometry → ℕ → ℕ → ℕ → ℕ → Area
run_area g k n top high = record { x = mark_at g.marks k; y = g.strip.y + top; wide = run_wide g k n; high = high }

unfoldable pub run_boxes : Geometry → ℕ → ℕ → Option Flag → List ℕ
run_boxes g k n None = []
run_boxes g k n (Some f) = filled (bar_word f.bar) (codes "bare") (run_area g k n 0 6) ++ filled (tint_word f.tint) (codes "bare") (run_area g k n 6 8)

-- A RUN OF VLAN IDS that an experiment claims
unfoldable pub run_title : View → ℕ → ℕ → ℕ → List ℕ
run_title v k n exp = tag tags.Titled ++ exp_name v exp ++ codes ": " ++ decimal n ++ codes " from " ++ decimal (v.low + k) ++ tag tags.OnEnd

unfoldable pub run_text : Geometry → View → ℕ → ℕ → ℕ → List ℕ
run_text g v k n exp = run_title v k n exp ++ run_boxes g k n (flag_of_exp v exp) ++ tag tags.GroupEnd

abbrev pub run_of : Geometry → View → ℕ → Option ℕ → List ℕ
run_of g v k None = []
run_of g v k (Some exp) = run_text g v k (run_length v.owners k) exp

abbrev pub run_at : Geometry → View → ℕ → List ℕ
run_at g v k = if begins_run v.owners k then run_of g v k (owner_at v.owners k) else []

unfoldable pub ids_words : View → List ℕ
ids_words v = decimal (length v.owners) ++ codes " from " ++ decimal v.low ++ codes " on, " ++ decimal (free_ids v) ++ codes " free"

-- THE STRIP OF VLAN IDS
unfoldable pub strip_text : Geometry → View → List ℕ
strip_text g v = label (codes "h") g.ids.x g.ids.y (codes "VLAN ids") ++ label (codes "d") (g.ids.x + 84) g.ids.y (ids_words v) ++ rect (codes "strip") (area_of g.strip)
    ++ flat_map (run_at g v) (range_with_len 0 (length v.owners))

-- how the machines of an experiment are held, and the words for that
abbrev pub held_of : Stand → Held
held_of stands.Comes = helds.Comes
held_of stands.Goes = helds.Goes
held_of stands.Changes = helds.Stays
held_of stand = helds.Stands

abbrev pub stand_word : Stand → List ℕ
stand_word stands.Out = codes "out"
stand_word stands.In = codes "in"
stand_word stands.Comes = codes "coming in"
stand_word stands.Goes = codes "going out"
stand_word stands.Changes = codes "changing"

abbrev pub name_class : Stand → List ℕ
name_class stands.Out = codes "lo"
name_class stand = codes "l"

-- a word for one, or for more
abbrev pub plural : ℕ → List ℕ → List ℕ → List ℕ
plural n one more = if n == 1 then one else more

unfoldable pub claim_words : Exp → List ℕ
claim_words e = stand_word e.stand ++ codes ", " ++ decimal e.nodes ++ plural e.nodes (codes " machine, ") (codes " machines, ") ++ decimal e.ids ++ plural e.ids (codes " id") (codes " ids")

-- AN EXPERIMENT in the list: in its colour, with its name and what it claims
abbrev pub swatch : Point → Bounds
swatch p = record { x = p.x; y = p.y; wide = 32; high = 15 }

unfoldable pub entry_words : Geometry → Point → Exp → List ℕ
entry_words g p e = label (name_class e.stand) (p.x + 44) (p.y + 12) e.name ++ label (codes "k") (p.x + g.second) (p.y + 12) (claim_words e)

unfoldable pub entry_text : Geometry → View → ℕ → Point → Exp → List ℕ
entry_text g v n p e = coloured false (flag_of_exp v n) (held_of e.stand) (swatch p) ++ entry_words g p e

abbrev pub entry_in : Geometry → View → ℕ → Option Exp → List ℕ
entry_in g v n None = []
entry_in g v n (Some e) = entry_text g v n (point_at g.entries n) e

abbrev pub entry_at : Geometry → View → ℕ → List ℕ
entry_at g v n = entry_in g v n (slice_get v.experiments n)

unfoldable pub list_head : List ℕ
list_head = codes "Experiments"

-- THE LIST OF EXPERIMENTS
unfoldable pub list_text : Geometry → View → List ℕ
list_text g v = label (codes "h") g.list.x g.list.y list_head ++ flat_map (entry_at g v) (range_with_len 0 (length v.experiments))
