use Rattle.std.proofs.Common.{◌≡◌, ◌≤◌, ◌*◌}
use Rattle.lab_model.specs.Uses.{use_of}
use Rattle.cost_rule.specs.Cost.{sum_below}
use Rattle.cost_rule.proofs.costs.trunk_uses.Given as goal

abbrev pub invariant-loop-trunk : goal.invariant-loop-trunk
invariant-loop-trunk l = record {
  so_far : l.total ≡ sum_below l.trunk (use_of l.lab l.wiring l.mapping);
  small : l.total ≤ l.trunk * (4096 * 1000000000);
}
