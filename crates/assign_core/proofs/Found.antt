-- A map that is found is feasible.
use Rattle.virt_topo.specs.declared.mapping.Mapping.{Mapping}
use Rattle.lab_model.specs.Feasible.{IsFeasible}
use Rattle.node_maps.proofs.MapLaws.{mapped_is}
use Rattle.map_anneal.specs.Sought.{Sought, IsNodeMap}

pub map_feasible : (s : Sought) (m : Mapping) → IsNodeMap s m → IsFeasible s.lab s.free s.wiring m
map_feasible s m is = (mapped_is s.lab s.free s.wiring m.places m is.feasible).feasible
