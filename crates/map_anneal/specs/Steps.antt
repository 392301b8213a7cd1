-- Steps from one map to another, by the nodes, segments and classes that they leave as they were.
use Rattle.std.specs.Prelude.{◌≡◌, ◌≢◌, ◌<◌, ◌⊎◌, ℕ, Bool, true, false, List, length, slice_index_or}
use Rattle.phys_lab.specs.Labs.{Lab}
use Rattle.virt_topo.specs.declared.wiring.Wiring.{Wiring}
use Rattle.virt_topo.specs.declared.mapping.Mapping.{Mapping}
use Rattle.virt_topo.specs.Wirings.{virt_at}
use Rattle.lab_model.specs.Uses.{switch_of}
use Rattle.lab_model.specs.Rules.{is_member, place_at}
use Rattle.node_maps.specs.NodeMaps.{ends_of}
use Rattle.map_state.specs.Nodes.{no_end}

-- the plugs of end e in both mappings are on one switch
abbrev pub StaysAt : Lab → Mapping → Mapping → ℕ → Type 0
StaysAt lab x y e = switch_of lab (slice_index_or x.plugs e (record { 0 = 0 })) ≡ switch_of lab (slice_index_or y.plugs e (record { 0 = 0 }))

-- the segments that are marked have all their plugs on the switches where they were
pub record AreStill (lab : Lab) (w : Wiring) (x y : Mapping) (still : List Bool) : Type 0 where
  pub each : (e : ℕ) → e < length (ends_of w.segments) → slice_index_or still (slice_index_or (ends_of w.segments) e no_end).segment false ≡ true → StaysAt lab x y e

-- node n is aside: no virtual node comes or goes there, and it has no end of a segment that isn't marked as still
pub record IsAside (w : Wiring) (x y : Mapping) (still : List Bool) (n : ℕ) : Type 0 where
  pub places : (u : ℕ) → u < length w.nodes → (place_at x u ≡ place_at y u) ⊎ ((place_at x u).0.0 ≢ n) × ((place_at y u).0.0 ≢ n)
  pub ends : (e : ℕ) → e < length (ends_of w.segments) → slice_index_or still (slice_index_or (ends_of w.segments) e no_end).segment false ≡ false
      → (place_at x (slice_index_or (ends_of w.segments) e no_end).node).0.0 ≢ n

-- a member of the class that has one place in both mappings, of this type
pub record IsStaying (w : Wiring) (x y : Mapping) (c : ℕ) (type : List ℕ) (u : ℕ) : Type 0 where
  pub within : u < length w.nodes
  pub member : is_member c (virt_at w u).asks ≡ true
  pub stays : place_at x u ≡ place_at y u
  pub typed : (place_at x u).1 ≡ type

-- two of them
pub record HasTwo (w : Wiring) (x y : Mapping) (c : ℕ) (type : List ℕ) : Type 0 where
  pub one : ℕ
  pub other : ℕ
  pub apart : one ≢ other
  pub first : IsStaying w x y c type one
  pub second : IsStaying w x y c type other

-- each member of the class keeps its type, or both its types are those of two other members that stay
abbrev pub KeepsTypes : Wiring → Mapping → Mapping → ℕ → Type 0
KeepsTypes w x y c = (u : ℕ) → u < length w.nodes → is_member c (virt_at w u).asks ≡ true
    → ((place_at x u).1 ≡ (place_at y u).1) ⊎ (HasTwo w x y c (place_at x u).1 × HasTwo w x y c (place_at y u).1)

-- what a step touches: each node that isn't marked is aside of it, by some marks of still segments
pub record IsStep (lab : Lab) (w : Wiring) (x y : Mapping) (nodes : List Bool) : Type 0 where
  pub still : List Bool
  pub still_so : AreStill lab w x y still
  pub aside : (n : ℕ) → slice_index_or nodes n true ≡ false → IsAside w x y still n
