use Rattle.std.proofs.Common.{arith, []}
use Rattle.net_plan.specs.Parts.{delay_end}
use Rattle.net_plan.proofs.ListLaws.{push_range}
use Rattle.net_plan.proofs.segments.delay_ends.Goals as goal

pub loop-node-preserved : goal.loop-node-preserved
loop-node-preserved c =
    let low = c.loop-node.invariant.low in
    record {
      low = omega arith;
      ends = push_range delay_end [] _ _ _ c.args.first c.loop-node.node low c.loop-node.invariant.ends c.in_ok-push.ensures.ok c.delay_end.ensures;
    }
