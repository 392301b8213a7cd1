use Rattle.std.proofs.Common.{Ok, Result, ap, sym}
use Rattle.std.proofs.lemmas.Result.{err_from_is_err_and}
use Rattle.journal_rec.specs.declared.record.Way.{Way}
use Rattle.journal_rec.specs.declared.record.Way.TheVariants.{Out as WayOut}
use Rattle.script_text.specs.declared.reply.Reply.{Reply}
use Rattle.lab_tasks.specs.Tasks.{Swap, Task}
use Rattle.lab_tasks.specs.Needs.{need_idle_in}
use Rattle.lab_tasks.specs.declared.task.Task.TheVariants as tasks
use Rattle.lab_tasks.specs.OpenNames.{has_open}
use Rattle.lab_tasks.proofs.JudgeTasks.{stands_sound}
use Rattle.lab_judge.proofs.JudgeTasks.{can_leave}
use Rattle.lab_tasks.proofs.Checks.{given_by, refused_by}
use Rattle.lab_judge.proofs.command.judge_swapout.Goals as goal

pub returns-in_err-lab-clause-judged : goal.returns-in_err-lab-clause-judged
returns-in_err-lab-clause-judged c =
    let p = err_from_is_err_and c.from_residual.result c.from_residual.ensures.1 in
    rw (p.1, p.2) (refused_by (need_idle_in c.args.present.now.state.now.state (has_open c.args.present.now.swaps.now c.args.exp) c.args.exp) _ c.in_err-lab.field-0.0 c.in_err-lab.ensures.refuses)

pub plan_out-requires-clause-sound : goal.plan_out-requires-clause-sound
plan_out-requires-clause-sound c = (stands_sound c.args.present.now.state.now.state c.args.exp c.in_ok-lab.lab.now c.in_ok-lab.experiment.now c.in_ok-lab.mapping.now c.in_ok-lab.tags.now c.in_ok-lab.ensures.inside.there.sane c.in_ok-lab.ensures.inside.there.is_lab c.in_ok-lab.ensures.found c.in_ok-lab.ensures.inside.inside).0

pub plan_out-requires-clause-shaped : goal.plan_out-requires-clause-shaped
plan_out-requires-clause-shaped c = (stands_sound c.args.present.now.state.now.state c.args.exp c.in_ok-lab.lab.now c.in_ok-lab.experiment.now c.in_ok-lab.mapping.now c.in_ok-lab.tags.now c.in_ok-lab.ensures.inside.there.sane c.in_ok-lab.ensures.inside.there.is_lab c.in_ok-lab.ensures.found c.in_ok-lab.ensures.inside.inside).1

pub plan_out-requires-clause-tagged : goal.plan_out-requires-clause-tagged
plan_out-requires-clause-tagged c = (stands_sound c.args.present.now.state.now.state c.args.exp c.in_ok-lab.lab.now c.in_ok-lab.experiment.now c.in_ok-lab.mapping.now c.in_ok-lab.tags.now c.in_ok-lab.ensures.inside.there.sane c.in_ok-lab.ensures.inside.there.is_lab c.in_ok-lab.ensures.found c.in_ok-lab.ensures.inside.inside).2

pub returns-clause-judged : goal.returns-clause-judged
returns-clause-judged c =
    given_by (need_idle_in c.args.present.now.state.now.state (has_open c.args.present.now.swaps.now c.args.exp) c.args.exp) (λ p. Ok (Swap c.args.exp WayOut)) (c.in_ok-lab.lab.now, c.in_ok-lab.experiment.now) (Ok (tasks.Swap (record { exp = c.args.exp; way = c.way_out.result; ops = c.in_ok-ops.ops }))) c.in_ok-lab.ensures.occupied
    (ap (λ (w : Way). let j : Result Task Reply = Ok (Swap c.args.exp w) in j) (sym c.way_out.ensures.way))

pub returns-clause-can : goal.returns-clause-can
returns-clause-can c =
    can_leave c.args.present.now.state.now.state c.args.exp c.in_ok-lab.lab.now c.in_ok-lab.experiment.now c.in_ok-lab.mapping.now c.in_ok-lab.tags.now c.in_ok-lab.ensures.inside.there.is_lab c.in_ok-lab.ensures.found c.in_ok-lab.ensures.inside.inside c.way_out.result c.in_ok-ops.ops c.way_out.ensures.way c.way_out.ensures.is c.in_ok-ops.ensures.commands
