use Rattle.std.proofs.Common.{Ok, sym, subst}
use Rattle.lab_tasks.specs.Tasks.{Task, task_of}
use Rattle.lab_judge.specs.JudgeRun.{left_beside, space_in}
use Rattle.lab_judge.specs.Serving.{IsTestedAs, span_of}
use Rattle.lab_judge.proofs.JudgeRun.{swap_record, tested_so}
use Rattle.lab_judge.proofs.run.judge_place.Goals as goal

pub held_back-requires : goal.held_back-requires
held_back-requires c = swap_record c.args.case.now.state.now.state c.in_ok-task.task _ _ c.in_ok-task.ensures.task c.in_ok-task.ensures.can

pub returns-clause-judged : goal.returns-clause-judged
returns-clause-judged c =
    let queue = c.args.queue.now in
    let left = left_beside c.args.case.now.lab.now c.args.case.now.state.now.state queue c.args.mapping.now in
    let span = span_of queue.moment c.args.run.now in
    let task = c.in_ok-task.task in
    subst (λ (t : Task). IsTestedAs (λ entry. space_in c.args.space entry) c.args.case.now.lab.now left queue.promises span t (Ok (task_of c.in_ok-task-2.task))) c.in_ok-task.ensures.task
    (subst (λ (t : Task). IsTestedAs (λ entry. space_in c.args.space entry) c.args.case.now.lab.now left queue.promises span (task_of task) (Ok t)) (sym c.in_ok-task-2.ensures.task)
    (tested_so (λ entry. space_in c.args.space entry) c.args.case.now.lab.now left queue.promises span task (swap_record c.args.case.now.state.now.state task _ _ c.in_ok-task.ensures.task c.in_ok-task.ensures.can) c.in-Ok.wait (λ none. c.in-Ok.ensures.fits.0 none)
    c.in-Ok.ensures.waits))

pub returns-clause-can : goal.returns-clause-can
returns-clause-can c = c.in_ok-task-2.ensures.can c.args.case.now.state.now.state c.in_ok-task.ensures.can
