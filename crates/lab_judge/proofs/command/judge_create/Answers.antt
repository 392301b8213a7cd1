use Rattle.std.proofs.lemmas.Result.{err_from_is_err_and}
use Rattle.std.proofs.Common.{Err}
use Rattle.lab_tasks.specs.Needs.{need_lab_and_name}
use Rattle.lab_judge.specs.Judge.{judged_wiring}
use Rattle.lab_tasks.proofs.Asked.{asked_so, refuses_so}
use Rattle.lab_judge.proofs.Judgements.{fault_refuses, is_so, text_so}
use Rattle.lab_judge.proofs.command.judge_create.Goals as goal

pub returns-in_err-need_lab_and_name-clause-judged : goal.returns-in_err-need_lab_and_name-clause-judged
returns-in_err-need_lab_and_name-clause-judged c =
    let p = err_from_is_err_and c.from_residual.result c.from_residual.ensures.1 in
    rw (p.1, p.2) (refuses_so (need_lab_and_name c.args.state.now.state c.args.exp) _ c.in_err-need_lab_and_name.field-0.0 c.in_err-need_lab_and_name.ensures.refuses)

pub returns-in-Ok-clause-judged : goal.returns-in-Ok-clause-judged
returns-in-Ok-clause-judged c =
    let w = c.in-Ok.field-0.wiring in
    asked_so (need_lab_and_name c.args.state.now.state c.args.exp) _ tt c.judge_wiring.result c.in_ok-need_lab_and_name.ensures.occupied
    (text_so c.args.exp c.args.text.now _ w c.judge_wiring.result c.in-Ok.ensures.wiring (is_so (judged_wiring c.args.state.now.state c.args.exp w) c.judge_wiring.result c.judge_wiring.ensures.judged))

pub returns-in-Err-clause-judged : goal.returns-in-Err-clause-judged
returns-in-Err-clause-judged c =
    asked_so (need_lab_and_name c.args.state.now.state c.args.exp) _ tt (Err c.bad_text.result) c.in_ok-need_lab_and_name.ensures.occupied
    (fault_refuses c.args.exp c.args.text.now _ c.in-Err.refused c.bad_text.result c.in-Err.ensures.wiring c.bad_text.ensures)
