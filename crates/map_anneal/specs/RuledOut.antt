-- Tries that are known, whatever is left of the trunks.
use Rattle.std.specs.Prelude.{◌≡◌, ◌<◌, ◌≤◌, ℕ, Bool, true, false, List, [], length, Some, Contains, slice_index_or, slice_set}
use Rattle.lab_base.specs.declared.ids.IfaceId.{IfaceId}
use Rattle.phys_lab.specs.declared.free.Free.{Free}
use Rattle.phys_lab.specs.Labs.{Lab}
use Rattle.virt_topo.specs.declared.wiring.Wiring.{Wiring}
use Rattle.virt_topo.specs.declared.mapping.Mapping.{Mapping}
use Rattle.lab_model.specs.Shapes.{Place}
use Rattle.lab_model.specs.Rules.{keeps_f7, keeps_f8, no_place, place_at}
use Rattle.lab_model.specs.Feasible.{AllPass}
use Rattle.node_maps.specs.NodeMaps.{plugs_of}
use Rattle.node_maps.specs.Moved.{may_share, has_class_type}
use Rattle.map_anneal.specs.Sought.{Sought, choices, candidates_at, price}

-- what is left to ask of a choice of candidates with the plugs that the rule gives, but F6
pub record KeepsButRoom (lab : Lab) (free : Free) (w : Wiring) (places : List Place) (plugs : List IfaceId) : Type 0 where
  pub given : plugs_of lab w places ≡ Some plugs
  pub shared : AllPass (length lab.nodes) (may_share lab w places)
  pub typed : AllPass (length w.nodes) (has_class_type w places)
  pub joined : AllPass (length w.segments) (keeps_f7 lab w (record { places = places; plugs = plugs }))
  pub ids : keeps_f8 free w ≡ true

-- with these places no map costs less than that, though F6 is not asked
abbrev pub IsNoLess : Sought → ℕ → List Place → Type 0
IsNoLess s below places = (plugs : List IfaceId) → KeepsButRoom s.lab s.free s.wiring places plugs → below ≤ price s (record { places = places; plugs = plugs })

-- by candidate of virtual node v whether a move there is known; noted so, it is no cheaper than the map, though F6 is not asked
pub record IsRow (s : Sought) (m : Mapping) (v : ℕ) (row : List Bool) : Type 0 where
  pub one_each : length row ≡ length (candidates_at s v)
  pub known : (c : ℕ) → c < length row → slice_index_or row c false ≡ true
      → IsNoLess s (price s m) (slice_set m.places v (slice_index_or (candidates_at s v) c no_place))

-- a row for each virtual node
pub record AreRows (s : Sought) (m : Mapping) (rows : List (List Bool)) : Type 0 where
  pub one_each : length rows ≡ length (choices s)
  pub each : (v : ℕ) → v < length (choices s) → IsRow s m v (slice_index_or rows v [])

-- the places with those of virtual nodes v and u exchanged
abbrev pub swapped : Mapping → ℕ → ℕ → List Place
swapped m v u = slice_set (slice_set m.places v (place_at m u)) u (place_at m v)

-- where each of two may have the other's place, their exchange makes no map that costs less, though F6 is not asked
abbrev pub IsExchangeNoLess : Sought → Mapping → ℕ → ℕ → Type 0
IsExchangeNoLess s m v u = Contains (candidates_at s v) (place_at m u) → Contains (candidates_at s u) (place_at m v) → IsNoLess s (price s m) (swapped m v u)

-- by virtual node whether the exchange of v with it is known; noted of a later one, it makes no map that costs less, though F6 is not asked
pub record IsPairs (s : Sought) (m : Mapping) (v : ℕ) (row : List Bool) : Type 0 where
  pub one_each : length row ≡ length (choices s)
  pub known : (u : ℕ) → v < u → u < length row → slice_index_or row u false ≡ true → IsExchangeNoLess s m v u

-- such a row for each virtual node
pub record ArePairs (s : Sought) (m : Mapping) (rows : List (List Bool)) : Type 0 where
  pub one_each : length rows ≡ length (choices s)
  pub each : (v : ℕ) → v < length (choices s) → IsPairs s m v (slice_index_or rows v [])
