use Rattle.std.proofs.Common.{◌≡◌, ◌≤◌, ◌+◌, drop}
use Rattle.rule_costs.specs.Nodes.{nodes_of, beyond}
use Rattle.rule_costs.proofs.nodes.nodes_beyond.Given as goal

abbrev pub invariant-loop-virt : goal.invariant-loop-virt
invariant-loop-virt l = record {
  so_far : l.nodes + beyond (nodes_of (drop l.virt l.first)) (nodes_of l.others) ≡ beyond (nodes_of l.first) (nodes_of l.others);
  few : l.nodes ≤ l.virt;
}
