use Rattle.std.proofs.Common.{◌≡◌, ◌<◌, All, length, take}
use Rattle.node_maps.specs.NodeMaps.{candidates_among}
use Rattle.node_maps.specs.Kinds.{places_of}
use Rattle.node_maps.proofs.suited.candidates_of.Given as goal

abbrev pub invariant-loop-number : goal.invariant-loop-number
invariant-loop-number l = record {
  numbers : All (λ k. k < length l.places) l.numbers;
  places : places_of l.places l.numbers ≡ candidates_among l.lab l.free l.wiring (take l.number l.places) l.virt;
}
