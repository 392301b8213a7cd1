-- The maps of a wiring, among which is searched, and the cost of each.
use Rattle.std.specs.Prelude.{◌≡◌, ℕ, ◌<◌, ◌≤◌, List, [], length, Option, Some, Contains, slice_index_or, slice_set}
use Rattle.phys_lab.specs.Labs.{Lab}
use Rattle.phys_lab.specs.declared.free.Free.{Free}
use Rattle.virt_topo.specs.declared.wiring.Wiring.{Wiring}
use Rattle.virt_topo.specs.declared.mapping.Mapping.{Mapping}
use Rattle.lab_model.specs.Shapes.{Place}
use Rattle.lab_model.specs.Rules.{place_at}
use Rattle.cost_rule.specs.declared.rule.RuleNumber.{RuleNumber}
use Rattle.cost_rule.specs.Cost.{cost}
use Rattle.node_maps.specs.NodeMaps.{candidates, IsChoice, node_map}

-- a wiring to be mapped onto what is free of a lab, cheaply by a rule
pub record Sought : Type 0 where
  pub lab : Lab
  pub free : Free
  pub wiring : Wiring
  pub number : RuleNumber

abbrev pub sought : Lab → Free → Wiring → RuleNumber → Sought
sought lab free w number = record { lab = lab; free = free; wiring = w; number = number }

abbrev pub choices : Sought → List (List Place)
choices s = candidates s.lab s.free s.wiring

-- the feasible node map of these places, if it is one
abbrev pub mapped : Sought → List Place → Option Mapping
mapped s places = node_map s.lab s.free s.wiring places

abbrev pub price : Sought → Mapping → ℕ
price s m = cost s.number s.lab s.wiring m

abbrev pub candidates_at : Sought → ℕ → List Place
candidates_at s v = slice_index_or (choices s) v []

-- virtual node v moved to another place, the interfaces given anew
abbrev pub moved : Sought → Mapping → ℕ → Place → Option Mapping
moved s m v place = mapped s (slice_set m.places v place)

-- the places of two virtual nodes exchanged, the interfaces given anew
abbrev pub exchanged : Sought → Mapping → ℕ → ℕ → Option Mapping
exchanged s m v u = mapped s (slice_set (slice_set m.places v (place_at m u)) u (place_at m v))

-- a feasible node map
pub record IsNodeMap (s : Sought) (m : Mapping) : Type 0 where
  pub choice : IsChoice (choices s) m.places
  pub feasible : mapped s m.places ≡ Some m

-- a map, if this is one, that isn't cheaper
abbrev pub IsNoCheaper : Sought → Mapping → Option Mapping → Type 0
IsNoCheaper s m o = (other : Mapping) → o ≡ Some other → price s m ≤ price s other

-- no move of a virtual node to a candidate is feasible and cheaper
abbrev pub NoMove : Sought → Mapping → ℕ → Type 0
NoMove s m v = (place : Place) → Contains (candidates_at s v) place → IsNoCheaper s m (moved s m v place)

-- no exchange of the places of two, by which each has a candidate of its own, is feasible and cheaper
abbrev pub NoExchange : Sought → Mapping → ℕ → ℕ → Type 0
NoExchange s m v u = Contains (candidates_at s v) (place_at m u) → Contains (candidates_at s u) (place_at m v) → IsNoCheaper s m (exchanged s m v u)

-- no move and no exchange is feasible and cheaper
pub record LocallyBest (s : Sought) (m : Mapping) : Type 0 where
  pub node_map : IsNodeMap s m
  pub moves : (v : ℕ) → v < length (choices s) → NoMove s m v
  pub exchanges : (v u : ℕ) → v < u → u < length (choices s) → NoExchange s m v u
