-- CHOICES THAT BEGIN WITH THE SAME PLACES, and what all their maps come to at least.
use Rattle.std.specs.Prelude.{◌≡◌, ◌<◌, ◌≤◌, ◌++◌, ℕ, List, length, map, slice_index_or, Option, Some, false}
use Rattle.phys_lab.specs.Labs.{Lab}
use Rattle.virt_topo.specs.declared.wiring.Wiring.{Wiring}
use Rattle.virt_topo.specs.declared.mapping.Mapping.{Mapping}
use Rattle.lab_model.specs.Shapes.{Place}
use Rattle.lab_model.specs.Rules.{no_place}
use Rattle.cost_rule.specs.declared.parts.Parts.{Parts}
use Rattle.cost_rule.specs.Cost.{sum_below, different, same_node, soft_at}
use Rattle.node_maps.specs.NodeMaps.{ArePlaces}
use Rattle.map_state.specs.Hosted.{hosted_at}
use Rattle.map_state.specs.declared.search.Search.{Search}
use Rattle.map_anneal.specs.declared.priced.Priced.{Priced}
use Rattle.map_anneal.specs.Sought.{Sought, mapped, price}
use Rattle.assign_core.specs.declared.prefix.Prefix.{Prefix}
use Rattle.assign_core.specs.Bests.{is_below}

-- what the first virtual nodes leave of desires and features at these places
abbrev pub first_soft : Lab → Wiring → List Place → ℕ
first_soft lab w places = sum_below (length places) (λ v. soft_at lab w v (slice_index_or places v no_place).0)

-- the parts of a cost by these places alone, where no trunk is used and no class asked for
abbrev pub first_parts : Lab → Wiring → List Place → Parts
first_parts lab w places = record { uses = 0; nodes = different same_node (map (λ p. p.0.0) places); soft = first_soft lab w places }

-- places of the lab for the first virtual nodes, with what is kept of them
pub record IsPrefix (x : Search) (p : Prefix) : Type 0 where
  pub within : length p.places.items ≤ length x.mapper.wiring.now.nodes
  pub are : ArePlaces x.mapper.lab.now p.places.items
  pub one_each : length p.hosted.items ≡ length x.mapper.lab.now.nodes
  pub hosted : (n : ℕ) → n < length x.mapper.lab.now.nodes → slice_index_or p.hosted.items n 0 ≡ hosted_at p.places.items n
  pub parts : p.parts ≡ first_parts x.mapper.lab.now x.mapper.wiring.now p.places.items

-- no map that begins with these places is cheaper than the best one
abbrev pub ArePassed : Sought → List Place → Option Priced → Type 0
ArePassed s places best = (rest : List Place) (m : Mapping) → length (places ++ rest) ≡ length s.wiring.nodes → mapped s (places ++ rest) ≡ Some m
    → is_below (price s m) best ≡ false
