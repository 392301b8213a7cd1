use Rattle.std.proofs.Common.{◌≡◌, map, take}
use Rattle.virt_topo.specs.Wirings.{virt_at}
use Rattle.node_maps.specs.NodeMaps.{candidates_among}
use Rattle.node_maps.specs.Kinds.{listed, AreNumbers}
use Rattle.node_maps.proofs.suited.lists_of.Given as goal

abbrev pub invariant-loop-one : goal.invariant-loop-one
invariant-loop-one l = record {
  numbers : AreNumbers l.places l.lists.items;
  places : listed l.places l.lists.items ≡ map (λ v. candidates_among l.lab l.free l.wiring l.places (virt_at l.wiring v)) (take l.one-index l.ones);
}
