-- The mapping with its planned changes made.
use Rattle.virt_topo.specs.declared.mapping.Mapping.{Mapping}
use Rattle.trunk_sums.specs.Remade.{remade}
use Rattle.map_state.specs.declared.state.MapState.{MapState}

abbrev pub planned : MapState → Mapping
planned b = record { places = b.mapping.places; plugs = remade b.mapping.plugs b.changes.items }
