use Rattle.std.proofs.lemmas.Result.{err_from_is_err_and}
use Rattle.lab_judge.proofs.JudgeRun.{batch_read, batch_refused, lab_wants}
use Rattle.lab_judge.proofs.run.judge_batch.Goals as goal

pub returns-in_err-_lab-clause-judged : goal.returns-in_err-_lab-clause-judged
returns-in_err-_lab-clause-judged c =
    let p = err_from_is_err_and c.from_residual.result c.from_residual.ensures.1 in
    rw (p.1, p.2) (lab_wants c.args.state.now.state c.args.text.now c.in_err-_lab.field-0.0 c.in_err-_lab.ensures.refuses)

pub returns-in-Ok-clause-judged : goal.returns-in-Ok-clause-judged
returns-in-Ok-clause-judged c = batch_read c.args.state.now.state c.args.text.now c.in_ok-_lab._lab.now c.in_ok-_lab.ensures.lab c.in-Ok.batch c.in-Ok.ensures.batch

pub returns-in-Err-clause-judged : goal.returns-in-Err-clause-judged
returns-in-Err-clause-judged c =
    batch_refused c.args.state.now.state c.args.text.now c.in_ok-_lab._lab.now c.in_ok-_lab.ensures.lab c.in-Err.refused c.bad_batch.result c.in-Err.ensures.batch c.bad_batch.ensures
