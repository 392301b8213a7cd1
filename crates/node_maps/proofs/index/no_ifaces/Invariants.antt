use Rattle.std.proofs.Common.{◌≡◌, [], replicate}
use Rattle.node_maps.proofs.index.no_ifaces.Given as goal

abbrev pub invariant-loop-node : goal.invariant-loop-node
invariant-loop-node l = l.lists.items ≡ replicate l._node []
