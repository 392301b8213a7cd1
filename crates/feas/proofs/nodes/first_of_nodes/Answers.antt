use Rattle.std.proofs.Common.{length, ap, arith}
use Rattle.lab_model.specs.Rules.{keeps_f2}
use Rattle.lab_model.proofs.FirstViolation.{first_at, none_at}
use Rattle.feas.proofs.nodes.first_of_nodes.Goals as goal

pub returns-then-not-branch-clause-first : goal.returns-then-not-branch-clause-first
returns-then-not-branch-clause-first c =
    first_at _ (keeps_f2 c.args.lab.now c.args.wiring.now c.args.mapping.now) c.loop-node.node c.in_ok-keeps_f2.field-0 (omega (arith, ap length c.nodes-node-end.ensures)) c.in_ok-keeps_f2.ensures c.if-not-branch.true c.loop-node.invariant

pub returns-clause-first : goal.returns-clause-first
returns-clause-first c = none_at _ (keeps_f2 c.args.lab.now c.args.wiring.now c.args.mapping.now) c.loop-node.node (omega (arith, ap length c.nodes-node-end.ensures)) c.loop-node.invariant
