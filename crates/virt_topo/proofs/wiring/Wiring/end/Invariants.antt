use Rattle.std.proofs.Common.{◌≡◌, ◌+◌, length, drop}
use Rattle.virt_topo.specs.Ends.{end_nodes, end_number}
use Rattle.virt_topo.proofs.wiring.Wiring.end.Given as goal

abbrev pub invariant-loop-segment : goal.invariant-loop-segment
invariant-loop-segment l = record {
  number : end_number (end_nodes l.self.segments) l.node l.k ≡ l.passed + end_number (end_nodes (drop l.segment-index l.segment-items)) l.node l.left;
  passed : l.passed + length (end_nodes (drop l.segment-index l.segment-items)) ≡ length (end_nodes l.self.segments);
}
