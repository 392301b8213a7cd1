use Rattle.std.proofs.lemmas.Result.{err_from_is_err_and}
use Rattle.std.proofs.Common.{Err}
use Rattle.lab_tasks.specs.OpenNames.{has_open}
use Rattle.lab_tasks.specs.Needs.{need_idle_in}
use Rattle.lab_tasks.proofs.JudgeSwap.{sound_of}
use Rattle.lab_tasks.proofs.JudgePlay.{list_asked, list_refused, script_faulty, script_read}
use Rattle.lab_tasks.proofs.play.judge_play.Goals as goal

pub returns-in_err-_lab-clause-judged : goal.returns-in_err-_lab-clause-judged
returns-in_err-_lab-clause-judged c =
    let p = err_from_is_err_and c.from_residual.result c.from_residual.ensures.1 in
    rw (p.1, p.2) (list_refused (need_idle_in c.args.present.now.state.now.state (has_open c.args.present.now.swaps.now c.args.exp) c.args.exp) _ c.in_err-_lab.field-0.0 c.in_err-_lab.ensures.refuses)

pub judge_script-requires-clause-now : goal.judge_script-requires-clause-now
judge_script-requires-clause-now c = sound_of c.args.present.now.state.now.state c.in_ok-_lab._lab.now c.in_ok-_lab.experiment.now c.in_ok-_lab.ensures.inside.there

pub returns-in-Ok-clause-judged : goal.returns-in-Ok-clause-judged
returns-in-Ok-clause-judged c =
    list_asked (need_idle_in c.args.present.now.state.now.state (has_open c.args.present.now.swaps.now c.args.exp) c.args.exp) _ (c.in_ok-_lab._lab.now, c.in_ok-_lab.experiment.now) c.judge_script.result c.in_ok-_lab.ensures.occupied
    (script_read c.args.exp c.args.text.now _ c.in-Ok.script c.judge_script.result c.in-Ok.ensures.script c.judge_script.ensures.judged)

pub returns-in-Err-clause-judged : goal.returns-in-Err-clause-judged
returns-in-Err-clause-judged c =
    list_asked (need_idle_in c.args.present.now.state.now.state (has_open c.args.present.now.swaps.now c.args.exp) c.args.exp) _ (c.in_ok-_lab._lab.now, c.in_ok-_lab.experiment.now) (Err c.bad_text.result) c.in_ok-_lab.ensures.occupied
    (script_faulty c.args.exp c.args.text.now _ c.in-Err.refused c.bad_text.result c.in-Err.ensures.script c.bad_text.ensures)
