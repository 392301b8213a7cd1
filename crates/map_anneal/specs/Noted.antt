-- Known moves and exchanges of a map.
use Rattle.virt_topo.specs.declared.mapping.Mapping.{Mapping}
use Rattle.map_anneal.specs.declared.known.Known.{Known}
use Rattle.map_anneal.specs.Sought.{Sought}
use Rattle.map_anneal.specs.RuledOut.{ArePairs, AreRows}

-- the notes of moves and of exchanges are so of the map
pub record IsKnown (s : Sought) (m : Mapping) (x : Known) : Type 0 where
  pub rows : AreRows s m x.rows.items
  pub pairs : ArePairs s m x.pairs.items
