-- Mappers, from which node maps are made.
use Rattle.std.specs.Prelude.{◌≡◌}
use Rattle.virt_topo.specs.Soundness.{IsSound}
use Rattle.lab_model.specs.Shapes.{IsFreeOf}
use Rattle.node_maps.specs.NodeMaps.{ends_of}
use Rattle.node_maps.specs.Indexed.{IsIndex}
use Rattle.node_maps.specs.declared.mapper.Mapper.{Mapper}

-- the wiring is sound, what is free is of the lab, and the ends and the interfaces by node are theirs
pub record IsMapper (x : Mapper) : Type 0 where
  pub fits : IsFreeOf x.lab.now x.free.now
  pub sound : IsSound x.wiring.now
  pub ends : x.ends.now ≡ ends_of x.wiring.now.segments
  pub ifaces : IsIndex x.lab.now x.ifaces.now
