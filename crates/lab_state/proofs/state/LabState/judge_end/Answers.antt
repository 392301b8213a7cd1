use Rattle.std.proofs.Common.{sym}
use Rattle.lab_state.proofs.JudgeLaws.{end_nothing, end_still, end_follows}
use Rattle.lab_state.proofs.state.LabState.judge_end.Goals as goal

pub returns-then-may_end : goal.returns-then-may_end
returns-then-may_end c =
    rw (← c.self.view_is) (end_follows c.self.inside.claimed_lab c.self.inside.experiments.list c.args.exp c.args.commit c.in-Some.experiment.now c.self.invariant (sym c.in-Some.ensures) (sym c.if-may_end.ensures))

pub returns-else-may_end : goal.returns-else-may_end
returns-else-may_end c =
    rw (← c.self.view_is) (end_still c.self.inside.claimed_lab c.self.inside.experiments.list c.args.exp c.args.commit c.in-Some.experiment.now (sym c.in-Some.ensures) (sym c.if-may_end.ensures))

pub returns-in-None : goal.returns-in-None
returns-in-None c = rw (← c.self.view_is) (end_nothing c.self.inside.claimed_lab c.self.inside.experiments.list c.args.exp c.args.commit (sym c.in-None.ensures))
