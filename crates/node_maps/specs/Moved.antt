-- The facts of a node map, part by part, and places that differ on two nodes alone.
use Rattle.std.specs.Prelude.{◌≡◌, ◌⊎◌, ◌<◌, ℕ, Bool, true, List, [], length, slice_index_or}
use Rattle.phys_lab.specs.Labs.{Lab}
use Rattle.virt_topo.specs.declared.wiring.Wiring.{Wiring}
use Rattle.virt_topo.specs.Wirings.{virt_at}
use Rattle.lab_model.specs.Shapes.{Place, node_at}
use Rattle.lab_model.specs.Rules.{agree, hosted, is_of_one_type, no_place}
use Rattle.lab_model.specs.Feasible.{AllPass}

-- F2 on one node among these places
abbrev pub may_share : Lab → Wiring → List Place → ℕ → Bool
may_share lab w places n = agree (node_at lab (record { 0 = n })).types (hosted w.nodes places n)

-- F3's words on classes of weight 1000 or more, for one virtual node
abbrev pub has_class_type : Wiring → List Place → ℕ → Bool
has_class_type w places v = is_of_one_type w (record { places = places; plugs = [] }) (virt_at w v).asks (slice_index_or places v no_place).1

-- F2 on two nodes, and F3's words on classes
pub record KeepsPlaces (lab : Lab) (w : Wiring) (places : List Place) (a b : ℕ) : Type 0 where
  pub first : may_share lab w places a ≡ true
  pub second : may_share lab w places b ≡ true
  pub typed : AllPass (length w.nodes) (has_class_type w places)

-- the place is on one of the two nodes
abbrev pub IsOn : (a b : ℕ) → Place → Type 0
IsOn a b p = (p.0.0 ≡ a) ⊎ (p.0.0 ≡ b)

-- each virtual node has the same place in both, or is on one of the two nodes in both
pub record AlikeBut (a b : ℕ) (places others : List Place) : Type 0 where
  pub count : length places ≡ length others
  pub each : (v : ℕ) (d : Place) → v < length places → (slice_index_or places v d ≡ slice_index_or others v d) ⊎ (IsOn a b (slice_index_or places v d) × IsOn a b (slice_index_or others v d))
