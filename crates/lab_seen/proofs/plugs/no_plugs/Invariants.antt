use Rattle.std.proofs.Common.{◌≡◌, [], replicate}
use Rattle.lab_seen.proofs.plugs.no_plugs.Given as goal

abbrev pub invariant-loop-node : goal.invariant-loop-node
invariant-loop-node l = l.lists.items ≡ replicate l._node []
