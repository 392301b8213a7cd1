use Rattle.node_maps.specs.Kinds.{AreKinds}
use Rattle.node_maps.proofs.kinds.Kinds.of.Given as goal

abbrev pub invariant-loop-virt : goal.invariant-loop-virt
invariant-loop-virt l = AreKinds l.nodes l.virt l.found.ones.items l.found.kinds.items
