use Rattle.std.proofs.Common.{◌≡◌, ◌≤◌, ◌*◌, length, take, sum_by}
use Rattle.virt_topo.specs.Ends.{end_nodes}
use Rattle.net_plan.specs.Parts.{segments_of}
use Rattle.net_plan.proofs.limits.count_ends.Given as goal

abbrev pub invariant-loop-link : goal.invariant-loop-link
invariant-loop-link l = record {
  count : l.count ≡ sum_by (λ l. length (end_nodes (segments_of (0, l)))) (take l.link-index l.links);
  few : l.count ≤ 762 * l.link-index;
}
