use Rattle.std.proofs.Common.{◌≡◌, length, nat_le, drop}
use Rattle.virt_topo.specs.Ends.{end_nodes}
use Rattle.virt_topo.proofs.limits.has_at_most.Given as goal

abbrev pub invariant-loop-segment : goal.invariant-loop-segment
invariant-loop-segment l = nat_le (length (end_nodes (drop l.segment-index l.segments))) l.left ≡ nat_le (length (end_nodes l.segments)) l.most
