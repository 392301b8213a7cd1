use Rattle.std.proofs.Common.{◌≡◌, ◌<◌, ◌+◌, ◌*◌, ℕ, length, drop, All, get_or}
use Rattle.virt_topo.specs.Ends.{end_nodes}
use Rattle.virt_topo.specs.Cables.{cables, plugs_on}
use Rattle.trunk_sums.specs.Crossed.{side_of}
use Rattle.trunk_sums.specs.Summed.{own_plugs}
use Rattle.trunk_sums.proofs.start.counts_of.Given as goal

abbrev pub invariant-loop-segment : goal.invariant-loop-segment
invariant-loop-segment l = record {
  place : l.place ≡ 64 * l.segment-index;
  room : length l.counts.items ≡ 64 * length l.wiring.segments;
  each : (s t : ℕ) → s < l.segment-index → t < length l.lab.trunks → get_or l.counts.items (64 * s + t) 0 ≡ plugs_on (side_of l.lab t) (own_plugs l.wiring.segments l.plugs s);
  later : cables (drop l.segment-index l.wiring.segments) l.rest ≡ drop l.segment-index (cables l.wiring.segments l.plugs);
  plugged : length l.rest ≡ length (end_nodes (drop l.segment-index l.wiring.segments));
  within : All (λ i. i.0 < length l.lab.ifaces) l.rest;
}
