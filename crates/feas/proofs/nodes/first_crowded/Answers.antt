use Rattle.std.proofs.Common.{arith}
use Rattle.lab_model.specs.Rules.{keeps_f2}
use Rattle.lab_model.proofs.FirstViolation.{none_at}
use Rattle.feas.proofs.nodes.first_crowded.Goals as goal

pub returns-then-branch-clause-first : goal.returns-then-branch-clause-first
returns-then-branch-clause-first c = none_at _ (keeps_f2 c.args.lab.now c.args.wiring.now c.args.mapping.now) _ (omega arith) (c.in_ok-are_shared.ensures c.if-branch.true)
