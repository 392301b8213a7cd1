use Rattle.std.proofs.Common.{◌≡◌, ◌≤◌, ◌*◌, ◌+◌}
use Rattle.cost_rule.specs.Cost.{sum_below, node_soft}
use Rattle.rule_costs.proofs.soft.moved_nodes_soft.Given as goal

abbrev pub invariant-loop-virt : goal.invariant-loop-virt
invariant-loop-virt l = record {
  difference : sum_below l.virt (node_soft l.lab l.wiring l.to) + l.before ≡ sum_below l.virt (node_soft l.lab l.wiring l.from) + l.after;
  before : l.before ≤ l.virt * (16 * 999);
  after : l.after ≤ l.virt * (16 * 999);
}
