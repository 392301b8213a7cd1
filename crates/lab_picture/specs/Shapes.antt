-- Boxes, texts and lines of a picture.
use Rattle.std.specs.Prelude.{ℕ, ◌-◌, nat_le, if◌then◌else◌, List, [], ◌∷◌, ◌++◌, length, take, codes, decimal, Option, Some, None}
use Rattle.lab_picture.specs.declared.geometry.Bend.{Bend}
use Rattle.lab_picture.specs.declared.geometry.Bounds.{Bounds}
use Rattle.lab_picture.specs.declared.geometry.Way.{Way}
use Rattle.lab_picture.specs.declared.tags.Piece.TheVariants as tags
use Rattle.lab_picture.specs.Tags.{tag}
use Rattle.lab_picture.specs.declared.shapes.Area.{Area}

-- a number of an attribute: the words before it, and it
abbrev pub field : List ℕ → ℕ → List ℕ
field words n = words ++ decimal n

abbrev pub area_of : Bounds → Area
area_of p = record { x = p.x; y = p.y; wide = p.wide; high = p.high }

unfoldable pub area_text : Area → List ℕ
area_text a = field (tag tags.X) a.x ++ field (tag tags.Y) a.y ++ field (tag tags.Wide) a.wide ++ field (tag tags.High) a.high ++ tag tags.Close

-- a box of a class, and one of a colour and a class
unfoldable pub rect : List ℕ → Area → List ℕ
rect class a = tag tags.Rect ++ class ++ area_text a

unfoldable pub filled : List ℕ → List ℕ → Area → List ℕ
filled fill class a = tag tags.Filled ++ fill ++ tag tags.Class ++ class ++ area_text a

-- a text of a class, which begins at a place
unfoldable pub begin : List ℕ → ℕ → ℕ → List ℕ
begin class x y = tag tags.Words ++ class ++ field (tag tags.X) x ++ field (tag tags.Y) y ++ tag tags.Open

unfoldable pub label : List ℕ → ℕ → ℕ → List ℕ → List ℕ
label class x y words = begin class x y ++ words ++ tag tags.WordsEnd

-- a name in at most so many letters; a longer one ends in an ellipsis
unfoldable pub fitted : ℕ → List ℕ → List ℕ
fitted most name = if nat_le (length name) most then name else take (most - 1) name ++ 226 ∷ 128 ∷ 166 ∷ []

-- a line's way: from a point, perhaps up or down in its lane with round corners, to its end
abbrev pub point_text : List ℕ → ℕ → ℕ → List ℕ
point_text letter x y = field letter x ++ field (codes " ") y

unfoldable pub corners : Bend → List ℕ
corners b = field (codes "H") b.before ++ point_text (codes "Q") b.lane b.level ++ point_text (codes " ") b.lane b.leave ++ field (codes "V") b.enter
    ++ point_text (codes "Q") b.lane b.below ++ point_text (codes " ") b.after b.below

abbrev pub bend_text : Option Bend → List ℕ
bend_text None = []
bend_text (Some b) = corners b

unfoldable pub way_text : Way → List ℕ
way_text w = point_text (codes "M") w.from.x w.from.y ++ bend_text w.bend ++ field (codes "H") w.end ++ tag tags.Close
