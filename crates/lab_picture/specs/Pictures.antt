-- The picture of a lab.
use Rattle.std.specs.Prelude.{ℕ, List, [], ◌++◌, length, count_by, flat_map, codes, decimal, Bool, true, false, Option, Some, None}
use Rattle.std.specs.List.{range_with_len}
use Rattle.lab_view.specs.declared.view.View.{View}
use Rattle.lab_view.specs.declared.view.Stand.{Stand}
use Rattle.lab_view.specs.declared.view.Stand.TheVariants as stands
use Rattle.lab_view.specs.Views.{free_machines}
use Rattle.lab_picture.specs.declared.geometry.Geometry.{Geometry}
use Rattle.lab_picture.specs.declared.geometry.Point.{Point}
use Rattle.lab_picture.specs.declared.shapes.Area.{Area}
use Rattle.lab_picture.specs.declared.tags.Piece.TheVariants as tags
use Rattle.lab_picture.specs.Tags.{tag}
use Rattle.lab_picture.specs.declared.tags.Piece.TheVariants as tags
use Rattle.lab_picture.specs.Tags.{tag}
use Rattle.lab_picture.specs.Shapes.{field, filled, label}
use Rattle.lab_picture.specs.Trunks.{tenths, trunk_at, label_at}
use Rattle.lab_picture.specs.Machines.{machine_at}
use Rattle.lab_picture.specs.Switches.{switch_at}
use Rattle.lab_picture.specs.Lists.{plural, strip_text, list_text}

-- how many experiments are in, move, and are out
abbrev pub is_in : Stand → Bool
is_in stands.In = true
is_in stand = false

abbrev pub is_out : Stand → Bool
is_out stands.Out = true
is_out stand = false

abbrev pub moves : Stand → Bool
moves stands.In = false
moves stands.Out = false
moves stand = true

abbrev pub count_in : (Stand → Bool) → View → ℕ
count_in p v = count_by (λ e. p e.stand) v.experiments

-- so many of a thing
abbrev pub so_many : ℕ → List ℕ → List ℕ → List ℕ
so_many n one more = decimal n ++ plural n one more

-- THE TITLE: how many machines there are, and how many are free
unfoldable pub title_words : View → List ℕ
title_words v = so_many (length v.machines) (codes " machine, ") (codes " machines, ") ++ decimal (free_machines v) ++ codes " free"

unfoldable pub parts_words : View → List ℕ
parts_words v = so_many (length v.switches) (codes " switch, ") (codes " switches, ") ++ so_many (length v.trunks) (codes " trunk; ") (codes " trunks; ")
    ++ so_many (length v.experiments) (codes " experiment: ") (codes " experiments: ")

unfoldable pub stands_words : View → List ℕ
stands_words v = decimal (count_in is_in v) ++ codes " in, " ++ decimal (count_in moves v) ++ codes " moving, " ++ decimal (count_in is_out v) ++ codes " out"

unfoldable pub title : View → List ℕ
title v = label (codes "t") 40 52 (title_words v) ++ label (codes "s") 40 76 (parts_words v ++ stands_words v)

-- a line across the picture
unfoldable pub rule : Geometry → ℕ → List ℕ
rule g y = field (tag tags.Rule) y ++ field (codes "h") g.across ++ tag tags.Close

-- THE HEAD: the size of the picture, its style, its title, and the key to how things are drawn
unfoldable pub size_text : Geometry → List ℕ
size_text g = field (tag tags.Picture) g.wide ++ field (codes " ") g.high ++ field (tag tags.Wide) g.wide ++ field (tag tags.High) g.high ++ tag tags.Open

unfoldable pub sheet : Geometry → Area
sheet g = record { x = 0; y = 0; wide = g.wide; high = g.high }

unfoldable pub scaled : Geometry → List ℕ
scaled g = tag tags.Scale ++ tenths g.scale ++ tag tags.ScaleEnd

unfoldable pub head_text : List ℕ → List ℕ → Geometry → View → List ℕ
head_text style key g v = size_text g ++ style ++ filled (codes "#fff") (codes "bare") (sheet g) ++ scaled g ++ title v ++ key ++ tag tags.GroupEnd ++ rule g g.head

-- the heading of machines without an interface
abbrev pub lone_text : Option Point → List ℕ
lone_text None = []
lone_text (Some p) = label (codes "c") p.x p.y (codes "no interface")

-- all that stands in the lab
unfoldable pub lab_text : Geometry → View → List ℕ
lab_text g v = flat_map (trunk_at g v) (range_with_len 0 (length v.trunks)) ++ flat_map (switch_at g v) (range_with_len 0 (length v.switches))
    ++ flat_map (machine_at g v) (range_with_len 0 (length v.machines)) ++ flat_map (label_at g v) (range_with_len 0 (length v.trunks)) ++ lone_text g.lone

-- THE PICTURE OF A LAB, where it is known where everything stands
unfoldable pub picture : List ℕ → List ℕ → Geometry → View → List ℕ
picture style key g v = head_text style key g v ++ lab_text g v ++ rule g g.foot ++ strip_text g v ++ list_text g v ++ tag tags.PictureEnd
