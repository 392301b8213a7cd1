use Rattle.std.proofs.Common.{◌≡◌, ◌≤◌, take}
use Rattle.lab_ahead.specs.Givings.{have_of}
use Rattle.lab_ahead.proofs.waits.have_of.Given as goal

abbrev pub invariant-loop-node : goal.invariant-loop-node
invariant-loop-node l = record { is : l.count ≡ have_of l.lab (take l.node-index l.left) l.kinds; few : l.count ≤ l.node-index }
