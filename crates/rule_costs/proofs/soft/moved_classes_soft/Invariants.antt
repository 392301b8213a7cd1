use Rattle.std.proofs.Common.{◌≡◌, ◌≤◌, ◌*◌, ◌+◌}
use Rattle.cost_rule.specs.Cost.{sum_below, class_soft}
use Rattle.rule_costs.proofs.soft.moved_classes_soft.Given as goal

abbrev pub invariant-loop-class : goal.invariant-loop-class
invariant-loop-class l = record {
  difference : sum_below l.class (class_soft l.wiring l.to) + l.before ≡ sum_below l.class (class_soft l.wiring l.from) + l.after;
  before : l.before ≤ l.class * (999 * 256);
  after : l.after ≤ l.class * (999 * 256);
}
