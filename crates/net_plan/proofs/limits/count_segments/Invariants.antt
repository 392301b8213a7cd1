use Rattle.std.proofs.Common.{◌≡◌, ◌≤◌, ◌*◌, length, take, sum_by}
use Rattle.net_plan.specs.Parts.{segments_of}
use Rattle.net_plan.proofs.limits.count_segments.Given as goal

abbrev pub invariant-loop-link : goal.invariant-loop-link
invariant-loop-link l = record {
  count : l.count ≡ sum_by (λ l. length (segments_of (0, l))) (take l.link-index l.links);
  few : l.count ≤ 255 * l.link-index;
}
