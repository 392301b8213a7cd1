use Rattle.std.proofs.Common.{◌≡◌, map, take}
use Rattle.net_plan.specs.Parts.{asked_node}
use Rattle.net_plan.proofs.nodes.asked_nodes.Given as goal

abbrev pub invariant-loop-node : goal.invariant-loop-node
invariant-loop-node l = l.nodes ≡ map asked_node (take l.node-index l.asked)
