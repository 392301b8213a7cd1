use Rattle.std.proofs.Common.{◌-◌, length}
use Rattle.solution_text.proofs.Listed.{IsSought}
use Rattle.solution_text.proofs.by_node.NodeIfaces.find.Given as goal

abbrev pub invariant-loop-number : goal.invariant-loop-number
invariant-loop-number l = IsSought l.ifaces l.node l.name l.number

abbrev pub decreases-loop-number : goal.decreases-loop-number
decreases-loop-number l = length l.ifaces - l.number
