use Rattle.std.proofs.Common.{◌≡◌, map, take}
use Rattle.lab_ahead.specs.Givings.{has_type}
use Rattle.lab_ahead.proofs.giving.row_of.Given as goal

abbrev pub invariant-loop-node : goal.invariant-loop-node
invariant-loop-node l = l.row.items ≡ map (has_type l.lab l.kind) (take l.node-index l.left)
