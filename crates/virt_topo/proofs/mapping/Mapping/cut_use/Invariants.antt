use Rattle.std.proofs.Common.{◌≡◌, ◌<◌, ◌+◌, length, drop, All}
use Rattle.virt_topo.specs.Ends.{end_nodes}
use Rattle.virt_topo.specs.Cables.{cables, cut_use}
use Rattle.virt_topo.proofs.mapping.Mapping.cut_use.Given as goal

abbrev pub invariant-loop-segment : goal.invariant-loop-segment
invariant-loop-segment l = record {
  so_far : l.used + cut_use l.first (cables (drop l.segment-index l.segment-items) l.rest) ≡ cut_use l.first (cables l.wiring.segments l.self.plugs);
  plugged : length l.rest ≡ length (end_nodes (drop l.segment-index l.segment-items));
  within : All (λ i. i.0 < length l.first) l.rest;
}
