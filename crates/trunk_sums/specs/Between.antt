-- The trunks that part two switches.
use Rattle.std.specs.Prelude.{◌≡◌, ◌<◌, ◌≤◌, ◌+◌, ◌*◌, ℕ, Bool, true, false, List, [], ◌∷◌, length, map, All, slice_index_or, if◌then◌else◌}
use Rattle.std.specs.Int.{bit_at}
use Rattle.phys_lab.specs.Labs.{Lab}
use Rattle.phys_lab.specs.Sides.{on_first_side}
use Rattle.phys_lab.specs.declared.parts.Iface.{Iface}
use Rattle.trunk_sums.specs.declared.crossing.Crossing.{Crossing}
use Rattle.trunk_sums.specs.declared.table.Crossings.{Crossings}
use Rattle.trunk_sums.specs.Crossed.{ups, downs}

abbrev pub no_iface : Iface
no_iface = record { link = []; node = record { 0 = 0 }; name = []; switch = record { 0 = 0 }; port = 0; kbps = 0 }

-- 1 where the switch is on the first side of trunk t
abbrev pub on_side : Lab → ℕ → ℕ → ℕ
on_side lab t switch = if on_first_side lab.trunks t switch then 1 else 0

-- what is crossed of trunk t from one side to another
abbrev pub crossing_of : (from to : Bool) → ℕ → List Crossing
crossing_of true true t = []
crossing_of true false t = record { trunk = t; onto = false } ∷ []
crossing_of false true t = record { trunk = t; onto = true } ∷ []
crossing_of false false t = []

-- what is crossed of the trunks below n from switch a to switch b: each that parts them, once
pub record AreBetween (lab : Lab) (a b n : ℕ) (cs : List Crossing) : Type 0 where
  pub within : All (λ c. c.trunk < n) cs
  pub few : length cs ≤ n
  pub each : (t : ℕ) → t < n → on_side lab t a + ups t cs ≡ on_side lab t b + downs t cs
  pub gone : (t : ℕ) → t < n → downs t cs ≤ on_side lab t a
  pub come : (t : ℕ) → t < n → ups t cs + on_side lab t a ≤ 1

-- bit t is 1 where switch z is on the first side of trunk t, of the trunks below n
pub record AreSides (lab : Lab) (z n word : ℕ) : Type 0 where
  pub each : (t : ℕ) → t < n → bit_at word t ≡ on_side lab t z
  pub none : (t : ℕ) → n ≤ t → t < 64 → bit_at word t ≡ 0

-- by pair of switches what is crossed: of a and b at 64 * a + b; by interface its switch; and by switch its sides
pub record IsTable (lab : Lab) (x : Crossings) : Type 0 where
  pub each : (a b : ℕ) → a < length lab.switches → b < length lab.switches → AreBetween lab a b (length lab.trunks) (slice_index_or x.lists.items (64 * a + b) [])
  pub switches : x.switches.items ≡ map (λ i. i.switch) lab.ifaces
  pub one_each : length x.sides.items ≡ length lab.switches
  pub sides : (z : ℕ) → z < length lab.switches → AreSides lab z (length lab.trunks) (slice_index_or x.sides.items z 0)
