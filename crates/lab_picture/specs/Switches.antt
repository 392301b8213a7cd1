-- Switches, as they are drawn.
use Rattle.std.specs.Prelude.{ℕ, ◌+◌, ◌==◌, if◌then◌else◌, List, [], ◌++◌, codes, decimal, slice_get, Option, Some, None}
use Rattle.lab_view.specs.declared.view.View.{View}
use Rattle.lab_view.specs.Views.{switch_name, count_under, free_under}
use Rattle.lab_picture.specs.declared.geometry.Geometry.{Geometry}
use Rattle.lab_picture.specs.declared.geometry.Card.{Card}
use Rattle.lab_picture.specs.declared.geometry.Echo.{Echo}
use Rattle.lab_picture.specs.declared.tags.Piece.TheVariants as tags
use Rattle.lab_picture.specs.Tags.{tag}
use Rattle.lab_picture.specs.Shapes.{area_of, area_text, label, way_text}

-- how many of the machines under a switch are free
abbrev pub counted : ℕ → ℕ → List ℕ
counted free count = if count == 0 then codes "no machines" else decimal free ++ codes " of " ++ decimal count ++ codes " free"

unfoldable pub count_words : View → ℕ → List ℕ
count_words v switch = counted (free_under v switch) (count_under v switch)

-- A CARD of a switch, with words below its name
unfoldable pub card_text : List ℕ → List ℕ → View → ℕ → Card → List ℕ
card_text class words v switch c = tag tags.Rounded ++ class ++ area_text (area_of c.place)
    ++ label (codes "n") c.words.x c.words.y (switch_name v switch) ++ label (codes "c") c.words.x (c.words.y + 15) words

abbrev pub card_in : View → ℕ → Option Card → List ℕ
card_in v switch None = []
card_in v switch (Some c) = card_text (codes "card") (count_words v switch) v switch c

-- a second card, before the machines of a switch that has further switches, and the line that leads there
unfoldable pub echo_text : View → ℕ → Echo → List ℕ
echo_text v switch e = tag tags.Own ++ way_text e.way ++ card_text (codes "card echo") (codes "own machines") v switch e.card

abbrev pub echo_of : View → ℕ → Option Echo → List ℕ
echo_of v switch None = []
echo_of v switch (Some e) = echo_text v switch e

abbrev pub echo_in : View → ℕ → Option (Option Echo) → List ℕ
echo_in v switch None = []
echo_in v switch (Some echo) = echo_of v switch echo

abbrev pub echo_at : Geometry → View → ℕ → List ℕ
echo_at g v switch = echo_in v switch (slice_get g.echoes switch)

-- A SWITCH
abbrev pub switch_at : Geometry → View → ℕ → List ℕ
switch_at g v switch = card_in v switch (slice_get g.cards switch) ++ echo_at g v switch
