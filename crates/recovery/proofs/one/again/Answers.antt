use Rattle.std.proofs.Common.{sym}
use Rattle.recovery.proofs.Settling.{suits_by}
use Rattle.recovery.proofs.one.again.Goals as goal

pub settling_ops-requires-clause-old_suits : goal.settling_ops-requires-clause-old_suits
settling_ops-requires-clause-old_suits c = (suits_by c.args.state.now.state c.in-Some-Some.lab.now c.args.exp c.in-Some-Some.experiment.now c.in-Moving.old c.in-Moving.new c.in-Some-Some.ensures.sane (sym c.in-Some-Some.ensures.lab) (sym c.in-Some-Some.ensures') c.in-Moving.is).0

pub settling_ops-requires-clause-new_suits : goal.settling_ops-requires-clause-new_suits
settling_ops-requires-clause-new_suits c = (suits_by c.args.state.now.state c.in-Some-Some.lab.now c.args.exp c.in-Some-Some.experiment.now c.in-Moving.old c.in-Moving.new c.in-Some-Some.ensures.sane (sym c.in-Some-Some.ensures.lab) (sym c.in-Some-Some.ensures') c.in-Moving.is).1
