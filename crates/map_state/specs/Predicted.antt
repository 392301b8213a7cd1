-- Moves that are told before they are made.
use Rattle.std.specs.Prelude.{◌≡◌, ◌==◌, ℕ, true, List, map, slice_index_or}
use Rattle.lab_model.specs.Shapes.{Place}
use Rattle.lab_model.specs.Rules.{no_place}
use Rattle.node_maps.specs.Indexed.{are_in_order, ifaces_of}
use Rattle.map_state.specs.declared.search.Search.{Search}
use Rattle.map_state.specs.Nodes.{numbers_of, no_end}
use Rattle.map_state.specs.Hosted.{hosted_at}

-- virtual node v is alone where it is, the node of place p is empty, and each end of v fits the interface of its own place there
pub record CanPredict (x : Search) (places : List Place) (v : ℕ) (p : Place) : Type 0 where
  pub alone : hosted_at places (slice_index_or places v no_place).0.0 ≡ 1
  pub empty : hosted_at places p.0.0 ≡ 0
  pub in_order : are_in_order (map (λ k. slice_index_or x.mapper.ends.now k no_end) (numbers_of 0 (λ e. e.node == v) x.mapper.ends.now))
      (ifaces_of 0 x.mapper.lab.now.ifaces p.0.0) ≡ true
