-- The trunks that a plug crosses.
use Rattle.std.specs.Prelude.{◌≡◌, ◌<◌, ◌≤◌, ◌+◌, ◌==◌, ◌&&◌, not, ℕ, Bool, false, List, length, All, slice_index_or, count_by, if◌then◌else◌}
use Rattle.lab_base.specs.declared.ids.IfaceId.{IfaceId}
use Rattle.phys_lab.specs.Labs.{Lab}
use Rattle.phys_lab.specs.Forests.{first_side_of}
use Rattle.trunk_sums.specs.declared.crossing.Crossing.{Crossing}

-- by interface, whether its switch is on the first side of trunk t
abbrev pub side_of : Lab → ℕ → List Bool
side_of lab t = first_side_of lab.ifaces lab.trunks t

-- 1 where the interface is on the side
abbrev pub is_on : List Bool → IfaceId → ℕ
is_on side i = if slice_index_or side i.0 false then 1 else 0

-- how often trunk t is crossed onto its first side, and off it
abbrev pub ups : ℕ → List Crossing → ℕ
ups t cs = count_by (λ c. (c.trunk == t) && c.onto) cs

abbrev pub downs : ℕ → List Crossing → ℕ
downs t cs = count_by (λ c. (c.trunk == t) && not c.onto) cs

-- what a plug crosses that goes from one interface to another: each trunk whose side differs, once
pub record AreCrossed (lab : Lab) (from to : IfaceId) (cs : List Crossing) : Type 0 where
  pub within : All (λ c. c.trunk < length lab.trunks) cs
  pub few : length cs ≤ length lab.trunks
  pub each : (t : ℕ) → t < length lab.trunks → is_on (side_of lab t) from + ups t cs ≡ is_on (side_of lab t) to + downs t cs
  pub gone : (t : ℕ) → t < length lab.trunks → downs t cs ≤ is_on (side_of lab t) from
  pub come : (t : ℕ) → t < length lab.trunks → ups t cs + is_on (side_of lab t) from ≤ 1
