-- The counts kept by place of a mapping.
use Rattle.std.specs.Prelude.{◌≡◌, ◌<◌, ◌≤◌, ◌==◌, ◌&&◌, not, ℕ, List, length, nat_lt, count_by, map, slice_index_or, slice_set, if◌then◌else◌}
use Rattle.std.specs.List.{list_any}
use Rattle.lab_base.specs.Names.{same_name}
use Rattle.phys_lab.specs.Labs.{Lab}
use Rattle.virt_topo.specs.declared.wiring.Asks.{Asks}
use Rattle.virt_topo.specs.declared.wiring.Asks.TheVariants.{Plain, Class as InClass}
use Rattle.virt_topo.specs.declared.wiring.Wiring.{Wiring}
use Rattle.virt_topo.specs.declared.mapping.Mapping.{Mapping}
use Rattle.lab_model.specs.Shapes.{Place, node_at}
use Rattle.lab_model.specs.Rules.{class_at, no_place, number_of}
use Rattle.cost_rule.specs.Cost.{types_of, soft, nodes_in_use}
use Rattle.node_maps.specs.declared.rooms.Room.{Room}
use Rattle.map_state.specs.Members.{AreMembers}
use Rattle.map_state.specs.declared.hosting.Hosting.{Hosting}

-- how many virtual nodes are on node n
abbrev pub hosted_at : List Place → ℕ → ℕ
hosted_at places n = count_by (λ p. p.0.0 == n) places

-- more virtual nodes are on the node of virtual node v than may have its type there
abbrev pub IsOverfull : Lab → List Place → ℕ → Type 0
IsOverfull lab places v =
    number_of (node_at lab (slice_index_or places v no_place).0).types (slice_index_or places v no_place).1
    < hosted_at places (slice_index_or places v no_place).0.0

-- virtual node v is on another node than that of room r, where as many are as there is room for
abbrev pub IsFull : List Place → ℕ → Room → Type 0
IsFull places v r = ((slice_index_or places v no_place).0.0 ≡ r.node.0 → ⊥) × (r.most ≤ hosted_at places r.node.0)

-- by virtual node its node; by node how many virtual nodes are on it; how many nodes are in use; by class and type how many members have it; what is soft
pub record IsHosting (lab : Lab) (w : Wiring) (m : Mapping) (x : Hosting) : Type 0 where
  pub hosts : x.hosts.items ≡ map (λ p. p.0.0) m.places
  pub one_each : length x.hosted.items ≡ length lab.nodes
  pub hosted : (n : ℕ) → n < length lab.nodes → slice_index_or x.hosted.items n 0 ≡ hosted_at m.places n
  pub nodes : x.nodes ≡ nodes_in_use m
  pub members : AreMembers w m x.members
  pub soft : x.soft ≡ soft lab w m

-- what class c would cost more if one of its members had this type too: nothing where one has it
abbrev pub kind_soft : Wiring → Mapping → ℕ → List ℕ → ℕ
kind_soft w m c kind = if nat_lt (class_at w c).weight 1000 && not (list_any (same_name kind) (types_of c w.nodes m.places)) then (class_at w c).weight else 0

-- the same of the class that a virtual node asks for, if it asks for one
abbrev pub asked_soft : Wiring → Mapping → Asks → List ℕ → ℕ
asked_soft w m (Plain t) kind = 0
asked_soft w m (InClass c) kind = if nat_lt c (length w.classes) then kind_soft w m c kind else 0

-- the mapping with virtual node v at another place
abbrev pub placed_at : Mapping → ℕ → Place → Mapping
placed_at m v p = record { places = slice_set m.places v p; plugs = m.plugs }
