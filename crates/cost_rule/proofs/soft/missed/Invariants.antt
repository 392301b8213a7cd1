use Rattle.std.proofs.Common.{◌≡◌, ◌≤◌, ◌*◌, take}
use Rattle.std.specs.Prelude.{sum_by}
use Rattle.cost_rule.specs.Cost.{missed_weight}
use Rattle.cost_rule.proofs.soft.missed.Given as goal

abbrev pub invariant-loop-pair : goal.invariant-loop-pair
invariant-loop-pair l = record {
  so_far : l.total ≡ sum_by (missed_weight l.given) (take l.pair-index l.wanted);
  small : l.total ≤ l.pair-index * 999;
}
