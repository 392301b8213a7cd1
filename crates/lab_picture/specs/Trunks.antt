-- Trunks, as they are drawn.
use Rattle.std.specs.Prelude.{ℕ, ◌*◌, ◌/◌, ◌%◌, ◌==◌, min, max, nat_le, if◌then◌else◌, List, [], ◌++◌, codes, decimal, slice_get, Option, Some, None}
use Rattle.lab_view.specs.declared.view.View.{View}
use Rattle.lab_view.specs.declared.view.Trunk.{Trunk}
use Rattle.lab_picture.specs.declared.geometry.Geometry.{Geometry}
use Rattle.lab_picture.specs.declared.geometry.Line.{Line}
use Rattle.lab_picture.specs.declared.geometry.Label.{Label}
use Rattle.lab_picture.specs.declared.tags.Piece.TheVariants as tags
use Rattle.lab_picture.specs.Tags.{tag}
use Rattle.lab_picture.specs.Shapes.{field, way_text}

-- a number of tenths
abbrev pub tenth : ℕ → List ℕ
tenth n = if n == 0 then [] else codes "." ++ decimal n

unfoldable pub tenths : ℕ → List ℕ
tenths n = decimal (n / 10) ++ tenth (n % 10)

-- a speed, cut to tenths of its unit: `10G`, `2.5G`, `100M`
unfoldable pub speed : ℕ → List ℕ
speed kbps = if nat_le 1000000 kbps then tenths (kbps / 100000) ++ codes "G" else if nat_le 1000 kbps then tenths (kbps / 100) ++ codes "M" else decimal kbps ++ codes "k"

-- HOW FULL A TRUNK IS, in thousandths: none where nothing is claimed of it, else at least one
unfoldable pub share : ℕ → ℕ → ℕ
share used kbps = min 1000 (max 1 (min (used * 1000) 18446744073709551615 / kbps))

unfoldable pub thousandths : Trunk → ℕ
thousandths t = if t.used == 0 then 0 else if t.kbps == 0 then 1000 else share t.used t.kbps

-- the colour of a trunk that is full to so many eighths: from yellow by orange to a dark red
unfoldable pub heat : ℕ → List ℕ
heat n = if n == 0 then codes "#f4c846" else if n == 1 then codes "#f2b53f" else if n == 2 then codes "#f1a237" else if n == 3 then codes "#ef8f2f"
    else if n == 4 then codes "#ea7927" else if n == 5 then codes "#e05e26" else if n == 6 then codes "#d64225" else if n == 7 then codes "#c12623" else codes "#78081e"

-- WHAT IS CLAIMED OF A TRUNK: `1.5G of 2G, 75%`, or `2G, unused`
unfoldable pub percent : ℕ → ℕ
percent n = max 1 (n / 10)

unfoldable pub used_words : Trunk → List ℕ
used_words t = speed t.used ++ codes " of " ++ speed t.kbps ++ codes ", " ++ decimal (percent (thousandths t)) ++ codes "%"

unfoldable pub use_words : Trunk → List ℕ
use_words t = if t.used == 0 then speed t.kbps ++ codes ", unused" else used_words t

-- a pale case as wide as a trunk is fast, and in it a core as wide and as red as it is full
unfoldable pub case_text : Line → List ℕ
case_text l = field (tag tags.Case) l.wide ++ tag tags.Path ++ way_text l.way

unfoldable pub core_wide : ℕ → ℕ → ℕ
core_wide wide full = max 20 (wide * full / 100)

unfoldable pub core_text : Line → ℕ → List ℕ
core_text l full = tag tags.Core ++ heat (full / 125) ++ tag tags.Stroke ++ tenths (core_wide l.wide full) ++ tag tags.Path ++ way_text l.way

unfoldable pub core_of : Line → ℕ → List ℕ
core_of l full = if full == 0 then [] else core_text l full

unfoldable pub pipe : Line → Trunk → List ℕ
pipe l t = tag tags.Titled ++ t.link ++ tag tags.TitleEnd ++ case_text l ++ core_of l (thousandths t) ++ tag tags.GroupEnd

abbrev pub lined : Option Line → Trunk → List ℕ
lined None t = []
lined (Some l) t = pipe l t

abbrev pub trunk_in : Option Line → Option Trunk → List ℕ
trunk_in line None = []
trunk_in line (Some t) = lined line t

-- A TRUNK, as red as it is full
abbrev pub trunk_at : Geometry → View → ℕ → List ℕ
trunk_at g v n = trunk_in (slice_get g.lines n) (slice_get v.trunks n)

-- its name, and below it what is claimed of it
unfoldable pub ended : List ℕ → ℕ → ℕ → List ℕ → List ℕ
ended class x y words = tag tags.EndWords ++ class ++ field (tag tags.X) x ++ field (tag tags.Y) y ++ tag tags.Open ++ words ++ tag tags.WordsEnd

abbrev pub labelled : Option Label → Trunk → List ℕ
labelled None t = []
labelled (Some l) t = ended (codes "u") l.x l.name t.link ++ ended (codes "w") l.x l.used (use_words t)

abbrev pub label_in : Option Label → Option Trunk → List ℕ
label_in place None = []
label_in place (Some t) = labelled place t

-- THE LABEL OF A TRUNK: its name, and what is claimed of it
abbrev pub label_at : Geometry → View → ℕ → List ℕ
label_at g v n = label_in (slice_get g.labels n) (slice_get v.trunks n)
