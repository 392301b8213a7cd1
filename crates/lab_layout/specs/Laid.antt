-- Where things stand in the picture of a lab.
use Rattle.std.specs.Prelude.{◌≡◌, ◌≤◌, ◌+◌, ◌*◌, ◌⊎◌, ℕ, List, length, map, All, AllPairs, Option, Some, None, is_some, ⊤}
use Rattle.std.specs.List.{range_with_len}
use Rattle.lab_view.specs.declared.view.View.{View}
use Rattle.lab_view.specs.Lines.{has_lone}
use Rattle.lab_layout.specs.declared.limits.TheConstants.{LEAST_WIDE, LEAST_HIGH, MAX_CELLS}
use Rattle.lab_picture.specs.declared.geometry.Geometry.{Geometry}
use Rattle.lab_picture.specs.declared.geometry.Bounds.{Bounds}
use Rattle.lab_picture.specs.declared.geometry.Point.{Point}
use Rattle.lab_picture.specs.declared.geometry.Card.{Card}
use Rattle.lab_picture.specs.declared.geometry.Echo.{Echo}

-- EACH THING OF THE LAB HAS ONE PLACE, in the order of the lab; of VLAN ids there is one more, where the strip ends. The heading of machines
-- without an interface has one exactly where there are such machines
pub record HasPlaces (v : View) (g : Geometry) : Type 0 where
  pub cards : length g.cards ≡ length v.switches
  pub echoes : length g.echoes ≡ length v.switches
  pub lines : length g.lines ≡ length v.trunks
  pub labels : length g.labels ≡ length v.trunks
  pub cells : length g.cells ≡ length v.machines
  pub lone : is_some g.lone ≡ has_lone v
  pub marks : length g.marks ≡ length v.owners + 1
  pub entries : length g.entries ≡ length v.experiments

-- a box, a point, a card, and a second card where there is one, within a sheet of that width and height
abbrev pub IsIn : ℕ → ℕ → Bounds → Type 0
IsIn wide high p = (p.x + p.wide ≤ wide) × (p.y + p.high ≤ high)

abbrev pub IsPointIn : ℕ → ℕ → Point → Type 0
IsPointIn wide high p = (p.x ≤ wide) × (p.y ≤ high)

abbrev pub IsCardIn : ℕ → ℕ → Card → Type 0
IsCardIn wide high c = IsIn wide high c.place

abbrev pub IsEchoIn : ℕ → ℕ → Option Echo → Type 0
IsEchoIn wide high None = ⊤
IsEchoIn wide high (Some e) = IsCardIn wide high e.card

-- EVERYTHING LIES WITHIN THE PICTURE: machines, both cards of switches, the strip of VLAN ids, and where experiments are listed
pub record IsWithin (g : Geometry) : Type 0 where
  pub cells : All (IsIn g.wide g.high) g.cells
  pub cards : All (IsCardIn g.wide g.high) g.cards
  pub echoes : All (IsEchoIn g.wide g.high) g.echoes
  pub strip : IsIn g.wide g.high g.strip
  pub entries : All (IsPointIn g.wide g.high) g.entries

-- one box ends where the other begins, or before, from left to right or from top to bottom
abbrev pub IsApart : Bounds → Bounds → Type 0
IsApart p q = (p.x + p.wide ≤ q.x) ⊎ ((q.x + q.wide ≤ p.x) ⊎ ((p.y + p.high ≤ q.y) ⊎ (q.y + q.high ≤ p.y)))

-- a box has room for a machine's name
abbrev pub HasRoom : Bounds → Type 0
HasRoom p = (LEAST_WIDE ≤ p.wide) × (LEAST_HIGH ≤ p.high)

-- MACHINES DON'T OVERLAP, and each has its room
pub record AreApart (cells : List Bounds) : Type 0 where
  pub apart : AllPairs IsApart cells
  pub room : All HasRoom cells

-- machines below one another, which is how they stand where they would overlap
abbrev pub stacked : ℕ → Bounds
stacked number = record { x = 40; y = 138 + 49 * number; wide = LEAST_WIDE; high = LEAST_HIGH }

abbrev pub all_stacked : ℕ → List Bounds
all_stacked count = map stacked (range_with_len 0 count)

-- A LAID PICTURE; a lab has at most 1,024 machines
pub record IsLaid (v : View) (g : Geometry) : Type 0 where
  pub places : HasPlaces v g
  pub within : IsWithin g
  pub apart : length v.machines ≤ MAX_CELLS → AreApart g.cells
