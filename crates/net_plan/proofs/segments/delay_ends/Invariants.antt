use Rattle.std.proofs.Common.{◌≡◌, ◌≤◌, ◌-◌, map}
use Rattle.std.specs.List.{range_with_len}
use Rattle.net_plan.specs.Parts.{delay_end}
use Rattle.net_plan.proofs.segments.delay_ends.Given as goal

abbrev pub invariant-loop-node : goal.invariant-loop-node
invariant-loop-node l = record {
  low : l.first ≤ l.node;
  ends : l.ends ≡ map delay_end (range_with_len l.first (l.node - l.first));
}
