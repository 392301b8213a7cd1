use Rattle.std.proofs.Common.{◌≡◌, ◌≤◌, ◌*◌}
use Rattle.cost_rule.specs.Cost.{sum_below, node_soft}
use Rattle.cost_rule.proofs.soft.nodes_soft.Given as goal

abbrev pub invariant-loop-virt : goal.invariant-loop-virt
invariant-loop-virt l = record {
  so_far : l.total ≡ sum_below l.virt (node_soft l.lab l.wiring l.mapping);
  small : l.total ≤ l.virt * (16 * 999);
}
