use Rattle.std.proofs.Common.{◌≡◌, ◌++◌, drop}
use Rattle.node_maps.specs.NodeMaps.{places_from, lab_places}
use Rattle.node_maps.proofs.suited.places_of.Given as goal

abbrev pub invariant-loop-node : goal.invariant-loop-node
invariant-loop-node l = l.listed.items ++ places_from l.node (drop l.node l.lab.nodes) ≡ lab_places l.lab
