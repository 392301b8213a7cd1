use Rattle.std.proofs.Common.{arith, ap, ◌∙◌}
use Rattle.net_plan.specs.Parts.{delay_node, member_node_name}
use Rattle.net_plan.proofs.ListLaws.{push_range}
use Rattle.net_plan.proofs.nodes.push_member_nodes.Goals as goal

pub loop-member-preserved : goal.loop-member-preserved
loop-member-preserved c =
    let low = c.loop-member.invariant.low in
    record {
      low = omega arith;
      nodes = push_range (λ i. delay_node (member_node_name c.args.lan.now i)) _ _ _ _ 1 c.loop-member.member low c.loop-member.invariant.nodes c.in_ok-push.ensures.ok (c.delay_node.ensures ∙ ap delay_node c.in_ok-name.ensures);
    }
