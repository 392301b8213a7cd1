use Rattle.std.proofs.Common.{length, IfOk, subst}
use Rattle.std.proofs.lemmas.Result.{err_from_is_err_and}
use Rattle.lab_tasks.specs.Tasks.{CanDo, Gives}
use Rattle.lab_tasks.proofs.JudgeSwap.{has_slot, no_slot, refused_before}
use Rattle.lab_tasks.proofs.needs.in_slot.Goals as goal

pub returns-in_err-task-clause-judged : goal.returns-in_err-task-clause-judged
returns-in_err-task-clause-judged c = λ judgement gives.
    let p = err_from_is_err_and c.from_residual.result c.from_residual.ensures.1 in
    rw (p.1, p.2) (refused_before (length c.args.swaps.now) c.args.only_begin judgement c.in_err-task.field-0.0 (subst (λ r. Gives judgement r) c.in_err-task.was gives))

pub returns-in-Err-clause-judged : goal.returns-in-Err-clause-judged
returns-in-Err-clause-judged c = λ judgement gives.
    no_slot (length c.args.swaps.now) c.args.only_begin judgement c.in_ok-task.task c.in-Err.refusal (subst (λ r. Gives judgement r) c.in_ok-task.was gives) c.in-Err.ensures.refuses

pub returns-in-Ok-clause-judged : goal.returns-in-Ok-clause-judged
returns-in-Ok-clause-judged c = λ judgement gives.
    has_slot (length c.args.swaps.now) c.args.only_begin judgement c.in_ok-task.task c.begun_as.result (subst (λ r. Gives judgement r) c.in_ok-task.was gives) c.in-Ok.ensures.slot c.begun_as.ensures.task

pub returns-in-Ok-clause-can : goal.returns-in-Ok-clause-can
returns-in-Ok-clause-can c = λ s can. c.begun_as.ensures.can s (subst (λ r. IfOk r (CanDo s)) c.in_ok-task.was can)
