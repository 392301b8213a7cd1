use Rattle.std.proofs.Common.{◌≡◌, ◌≤◌, ◌-◌, ◌++◌, map}
use Rattle.std.specs.List.{range_with_len}
use Rattle.net_plan.specs.Parts.{lan_pipe}
use Rattle.net_plan.proofs.pipes.push_lan_pipes.Given as goal

abbrev pub invariant-loop-node : goal.invariant-loop-node
invariant-loop-node l = record {
  low : l.first ≤ l.node;
  pipes : l.pipes ≡ l.initial.pipes ++ map (lan_pipe l.rates) (range_with_len l.first (l.node - l.first));
}
