use Rattle.std.proofs.lemmas.Result.{err_from_is_err_and}
use Rattle.std.proofs.Common.{Err}
use Rattle.lab_tasks.specs.OpenNames.{has_open}
use Rattle.lab_tasks.specs.Needs.{need_idle_in}
use Rattle.lab_tasks.proofs.Asked.{asked_so, refuses_so}
use Rattle.lab_judge.proofs.Judgements.{fault_refuses, text_so}
use Rattle.lab_judge.proofs.search.judge_modify.Goals as goal

pub returns-in_err-lab-clause-judged : goal.returns-in_err-lab-clause-judged
returns-in_err-lab-clause-judged g c =
    let p = err_from_is_err_and c.from_residual.result c.from_residual.ensures.1 in
    rw (p.1, p.2) (refuses_so (need_idle_in c.args.present.now.state.now.state (has_open c.args.present.now.swaps.now c.args.exp) c.args.exp) _ c.in_err-lab.field-0.0 c.in_err-lab.ensures.refuses)

pub returns-in-Ok-clause-judged : goal.returns-in-Ok-clause-judged
returns-in-Ok-clause-judged g c =
    asked_so (need_idle_in c.args.present.now.state.now.state (has_open c.args.present.now.swaps.now c.args.exp) c.args.exp) _ (c.in_ok-lab.lab.now, c.in_ok-lab.experiment.now) c.judge_move.result c.in_ok-lab.ensures.occupied
    (text_so c.args.exp c.args.text.now _ c.in-Ok.wiring c.judge_move.result c.in-Ok.ensures.wiring c.judge_move.ensures.judged)

pub returns-in-Err-clause-judged : goal.returns-in-Err-clause-judged
returns-in-Err-clause-judged g c =
    asked_so (need_idle_in c.args.present.now.state.now.state (has_open c.args.present.now.swaps.now c.args.exp) c.args.exp) _ (c.in_ok-lab.lab.now, c.in_ok-lab.experiment.now) (Err c.bad_text.result) c.in_ok-lab.ensures.occupied
    (fault_refuses c.args.exp c.args.text.now _ c.in-Err.refused c.bad_text.result c.in-Err.ensures.wiring c.bad_text.ensures)
