use Rattle.std.proofs.Common.{◌≡◌, ◌≤◌, ◌-◌, ◌++◌, map}
use Rattle.std.specs.List.{range_with_len}
use Rattle.net_plan.specs.Parts.{delay_node, member_node_name}
use Rattle.net_plan.proofs.nodes.push_member_nodes.Given as goal

abbrev pub invariant-loop-member : goal.invariant-loop-member
invariant-loop-member l = record {
  low : 1 ≤ l.member;
  nodes : l.nodes ≡ l.initial.nodes ++ map (λ i. delay_node (member_node_name l.lan i)) (range_with_len 1 (l.member - 1));
}
