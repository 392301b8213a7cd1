use Rattle.std.proofs.Common.{length, ap, arith, below_more, sym, ◌∙◌}
use Rattle.plain_model.specs.Cabling.{is_right_at}
use Rattle.plain_model.proofs.HoldsLaws.{pass_fails, pass_all}
use Rattle.plain_model.proofs.cabled.are_right.Goals as goal

pub returns-then-not-branch : goal.returns-then-not-branch
returns-then-not-branch c = pass_fails _ (is_right_at c.args.commands.now c.args.lab.now c.args.experiment.now) c.loop-node.node c.in_ok-is_right_at.field-0 (omega (arith, ap length c.nodes-node-end.ensures)) c.in_ok-is_right_at.ensures c.if-not-branch.true c.loop-node.invariant

pub loop-node-preserved : goal.loop-node-preserved
loop-node-preserved c = below_more _ _ c.loop-node.invariant (sym c.in_ok-is_right_at.ensures ∙ c.if-not-branch.false)

pub returns : goal.returns
returns c = pass_all _ (is_right_at c.args.commands.now c.args.lab.now c.args.experiment.now) c.loop-node.node (omega (arith, ap length c.nodes-node-end.ensures)) c.loop-node.invariant
