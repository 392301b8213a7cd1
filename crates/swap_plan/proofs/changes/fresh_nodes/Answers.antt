use Rattle.std.proofs.Common.{◌≤◌, ◌<◌, length, ap, arith}
use Rattle.swap_plan.specs.Plans.{fresh_os, wiped_os}
use Rattle.swap_plan.proofs.TableLaws.{table_more, table_all}
use Rattle.swap_plan.proofs.changes.fresh_nodes.Goals as goal

pub loop-node-preserved : goal.loop-node-preserved
loop-node-preserved c =
    let lab = c.args.change.now.lab.now in
    let old = c.args.change.now.old.now in
    let new = c.args.change.now.new.now in
    let k = c.loop-node.node in
    let lt : k < length lab.nodes = omega (arith, c.loop-node-test.true, ap length c.nodes-nodes.ensures) in
    record {
      leaving = table_more (fresh_os lab old new old) lab k _ _ _ lt c.fresh_node.ensures.leaving c.loop-node.invariant.leaving c.in_ok-push_node.ensures.leaving;
      coming = table_more (fresh_os lab old new new) lab k _ _ _ lt c.fresh_node.ensures.coming c.loop-node.invariant.coming c.in_ok-push_node.ensures.coming;
      wiped = table_more (wiped_os lab old new) lab k _ _ _ lt c.fresh_node.ensures.wiped c.loop-node.invariant.wiped c.in_ok-push_node.ensures.wiped;
    }

pub returns : goal.returns
returns c =
    let lab = c.args.change.now.lab.now in
    let old = c.args.change.now.old.now in
    let new = c.args.change.now.new.now in
    let k = c.loop-node.node in
    let past : length lab.nodes ≤ k = omega (arith, c.loop-node-test.false, ap length c.nodes-nodes.ensures) in
    record {
      leaving = table_all (fresh_os lab old new old) lab k _ past c.loop-node.invariant.leaving;
      coming = table_all (fresh_os lab old new new) lab k _ past c.loop-node.invariant.coming;
      wiped = table_all (wiped_os lab old new) lab k _ past c.loop-node.invariant.wiped;
    }
