use Rattle.std.proofs.Common.{◌≡◌, ◌≤◌, ◌*◌, take, sum_by}
use Rattle.net_plan.specs.Parts.{delays}
use Rattle.net_plan.proofs.limits.count_delays.Given as goal

abbrev pub invariant-loop-link : goal.invariant-loop-link
invariant-loop-link l = record {
  count : l.count ≡ sum_by delays (take l.link-index l.links);
  few : l.count ≤ 254 * l.link-index;
}
