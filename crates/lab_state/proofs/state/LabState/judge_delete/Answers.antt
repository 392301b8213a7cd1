use Rattle.std.proofs.Common.{sym}
use Rattle.lab_state.proofs.JudgeLaws.{delete_nothing, delete_inside, delete_follows}
use Rattle.lab_state.proofs.state.LabState.judge_delete.Goals as goal

pub returns-then-is_out : goal.returns-then-is_out
returns-then-is_out c =
    rw (← c.self.view_is) (delete_follows c.self.inside.claimed_lab c.self.inside.experiments.list c.args.exp c.in-Some.experiment.now c.self.invariant (sym c.in-Some.ensures) (sym c.if-is_out.ensures))

pub returns-else-is_out : goal.returns-else-is_out
returns-else-is_out c =
    rw (← c.self.view_is) (delete_inside c.self.inside.claimed_lab c.self.inside.experiments.list c.args.exp c.in-Some.experiment.now (sym c.in-Some.ensures) (sym c.if-is_out.ensures))

pub returns-in-None : goal.returns-in-None
returns-in-None c = rw (← c.self.view_is) (delete_nothing c.self.inside.claimed_lab c.self.inside.experiments.list c.args.exp (sym c.in-None.ensures))
