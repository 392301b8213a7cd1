use Rattle.std.proofs.lemmas.Result.{err_from_is_err_and}
use Rattle.lab_tasks.specs.OpenNames.{has_open}
use Rattle.lab_tasks.specs.Needs.{need_idle_out}
use Rattle.lab_tasks.proofs.JudgeSwap.{sound_of}
use Rattle.lab_tasks.proofs.Asked.{asked_so, refuses_so}
use Rattle.lab_judge.proofs.run.judge_test.Goals as goal

pub returns-in_err-lab-clause-judged : goal.returns-in_err-lab-clause-judged
returns-in_err-lab-clause-judged g c =
    let p = err_from_is_err_and c.from_residual.result c.from_residual.ensures.1 in
    let exp = c.args.run.now.exp in
    rw (p.1, p.2) (refuses_so (need_idle_out c.args.present.now.state.now.state (has_open c.args.present.now.swaps.now exp) exp) _ c.in_err-lab.field-0.0 c.in_err-lab.ensures.refuses)

pub judge_found-requires-clause-sound : goal.judge_found-requires-clause-sound
judge_found-requires-clause-sound g c = sound_of c.args.present.now.state.now.state c.in_ok-lab.lab.now c.in_ok-lab.experiment.now c.in_ok-lab.ensures.out.there

pub returns-clause-judged : goal.returns-clause-judged
returns-clause-judged g c =
    let exp = c.args.run.now.exp in
    asked_so (need_idle_out c.args.present.now.state.now.state (has_open c.args.present.now.swaps.now exp) exp) _ (c.in_ok-lab.lab.now, c.in_ok-lab.experiment.now) c.judge_found.result c.in_ok-lab.ensures.occupied c.judge_found.ensures.judged
