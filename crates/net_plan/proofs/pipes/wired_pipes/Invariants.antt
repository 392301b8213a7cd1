use Rattle.std.proofs.Common.{◌≡◌, ◌+◌, ◌≤◌, ◌++◌, drop, sum_by}
use Rattle.std.specs.List.{flat_map}
use Rattle.net_plan.specs.Expansion.{numbered}
use Rattle.net_plan.specs.Parts.{delays, pipes_of}
use Rattle.net_plan.proofs.pipes.wired_pipes.Given as goal

abbrev pub invariant-loop-link : goal.invariant-loop-link
invariant-loop-link l = record {
  few : l.first + sum_by delays (drop l.link-index l.links) ≤ 256;
  pipes : l.pipes ++ flat_map pipes_of (numbered l.first (drop l.link-index l.links)) ≡ flat_map pipes_of (numbered l.asked l.links);
}
