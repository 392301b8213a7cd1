use Rattle.std.proofs.Common.{◌≡◌, [], replicate}
use Rattle.swap_plan.proofs.tables.no_pipes.Given as goal

abbrev pub invariant-loop-node : goal.invariant-loop-node
invariant-loop-node l = l.lists.items ≡ replicate l._node []
