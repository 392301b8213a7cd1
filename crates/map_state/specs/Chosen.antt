-- CHOICES THAT CHANGE PLACE BY PLACE, and the nodes whose ends may still have the plugs of an earlier one.
use Rattle.std.specs.Prelude.{◌≡◌, ℕ, true, false, length, filter, Some, slice_index_or}
use Rattle.virt_topo.specs.declared.mapping.Mapping.{Mapping}
use Rattle.node_maps.specs.NodeMaps.{plugs_from}
use Rattle.node_maps.specs.Moved.{may_share}
use Rattle.map_state.specs.declared.search.Search.{Search}
use Rattle.map_state.specs.declared.chosen.Chosen.{Chosen}
use Rattle.map_state.specs.Nodes.{is_on, plugs_where}
use Rattle.map_state.specs.States.{IsMapState}

-- the virtual nodes on node n may share it, and the ends there have the plugs that the rule gives them
pub record IsServed (x : Search) (m : Mapping) (n : ℕ) : Type 0 where
  pub shares : may_share x.mapper.lab.now x.mapper.wiring.now m.places n ≡ true
  pub given : plugs_from x.mapper.lab.now m.places (filter (is_on m.places n) x.mapper.ends.now) ≡ Some (plugs_where (is_on m.places n) x.mapper.ends.now m.plugs)

-- each node that isn't unserved is served
pub record IsChosen (x : Search) (c : Chosen) : Type 0 where
  pub state : IsMapState x c.state
  pub one_each : length c.unserved.items ≡ length x.mapper.lab.now.nodes
  pub served : (n : ℕ) → slice_index_or c.unserved.items n true ≡ false → IsServed x c.state.mapping n
