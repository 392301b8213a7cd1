use Rattle.std.proofs.Common.{◌≡◌, ◌≤◌, ◌*◌}
use Rattle.cost_rule.specs.Cost.{sum_below, class_soft}
use Rattle.cost_rule.proofs.soft.classes_soft.Given as goal

abbrev pub invariant-loop-class : goal.invariant-loop-class
invariant-loop-class l = record {
  so_far : l.total ≡ sum_below l.class (class_soft l.wiring l.mapping);
  small : l.total ≤ l.class * (999 * 256);
}
