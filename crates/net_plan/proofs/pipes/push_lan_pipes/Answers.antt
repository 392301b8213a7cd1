use Rattle.std.proofs.Common.{arith}
use Rattle.net_plan.specs.Parts.{lan_pipe}
use Rattle.net_plan.proofs.ListLaws.{push_range}
use Rattle.net_plan.proofs.pipes.push_lan_pipes.Goals as goal

pub loop-node-preserved : goal.loop-node-preserved
loop-node-preserved c =
    let low = c.loop-node.invariant.low in
    record {
      low = omega arith;
      pipes = push_range (lan_pipe c.args.rates) _ _ _ _ c.args.first c.loop-node.node low c.loop-node.invariant.pipes c.in_ok-push.ensures.ok c.lan_pipe.ensures;
    }
