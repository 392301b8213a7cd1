use Rattle.std.proofs.Common.{arith}
use Rattle.lab_model.specs.Rules.{keeps_f3}
use Rattle.lab_model.proofs.FirstViolation.{first_at, none_at}
use Rattle.feas.proofs.places.first_unsuited.Goals as goal

pub returns-then-not-keeps_f3-clause-first : goal.returns-then-not-keeps_f3-clause-first
returns-then-not-keeps_f3-clause-first c = first_at _ (keeps_f3 c.args.lab.now c.args.wiring.now c.args.mapping.now) c.loop-virt.virt c.keeps_f3.result (omega arith) c.keeps_f3.ensures c.if-not-keeps_f3.true c.loop-virt.invariant

pub returns-clause-first : goal.returns-clause-first
returns-clause-first c = none_at _ (keeps_f3 c.args.lab.now c.args.wiring.now c.args.mapping.now) c.loop-virt.virt (omega arith) c.loop-virt.invariant
