-- The cheapest map that the code keeps.
use Rattle.std.specs.Prelude.{◌≡◌, ◌≤◌, ◌<◌, ◌==◌, ℕ, List, [], length, Option, Some, None, Contains, slice_index_or, Bool, true, false, nat_lt}
use Rattle.virt_topo.specs.declared.mapping.Mapping.{Mapping}
use Rattle.lab_model.specs.Shapes.{Place}
use Rattle.node_maps.specs.Least.{IsFirstLeast}
use Rattle.map_anneal.specs.declared.priced.Priced.{Priced}
use Rattle.map_anneal.specs.Sought.{Sought, price}
use Rattle.map_anneal.specs.Searches.{IsPriced}

-- the cheapest of these feasible node maps with its cost, the first among equals
pub record IsCheapest (s : Sought) (maps : List Mapping) (p : Priced) : Type 0 where
  pub priced : IsPriced s p
  pub least : IsFirstLeast (price s) maps p.mapping

-- the cheapest of these, or None where there are none
abbrev pub IsBest : Sought → List Mapping → Option Priced → Type 0
IsBest s maps None = maps ≡ []
IsBest s maps (Some p) = IsCheapest s maps p

-- a candidate for each of the first virtual nodes
pub record IsPartial (cs : List (List Place)) (places : List Place) : Type 0 where
  pub within : length places ≤ length cs
  pub among : (v : ℕ) (d : Place) → v < length places → Contains (slice_index_or cs v []) (slice_index_or places v d)

-- the cost is below that of the best map, if there is one
abbrev pub is_below : ℕ → Option Priced → Bool
is_below cost None = true
is_below cost (Some kept) = nat_lt cost kept.cost

-- there is a best map, and it costs nothing
abbrev pub is_free : Option Priced → Bool
is_free None = false
is_free (Some kept) = kept.cost == 0
