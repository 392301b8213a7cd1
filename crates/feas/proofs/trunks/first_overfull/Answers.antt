use Rattle.std.proofs.Common.{length, ap, arith}
use Rattle.lab_model.specs.Rules.{keeps_f6}
use Rattle.lab_model.proofs.FirstViolation.{first_at, none_at}
use Rattle.feas.proofs.trunks.first_overfull.Goals as goal

pub returns-then-not-keeps_f6-clause-first : goal.returns-then-not-keeps_f6-clause-first
returns-then-not-keeps_f6-clause-first c = first_at _ (keeps_f6 c.args.lab.now c.args.free.now c.args.wiring.now c.args.mapping.now) c.loop-trunk.trunk c.keeps_f6.result (omega (arith, ap length c.trunks-trunk-end.ensures.list)) c.keeps_f6.ensures c.if-not-keeps_f6.true c.loop-trunk.invariant

pub returns-clause-first : goal.returns-clause-first
returns-clause-first c = none_at _ (keeps_f6 c.args.lab.now c.args.free.now c.args.wiring.now c.args.mapping.now) c.loop-trunk.trunk (omega (arith, ap length c.trunks-trunk-end.ensures.list)) c.loop-trunk.invariant
