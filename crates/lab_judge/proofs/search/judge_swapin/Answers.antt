use Rattle.std.proofs.lemmas.Result.{err_from_is_err_and}
use Rattle.lab_tasks.specs.OpenNames.{has_open}
use Rattle.lab_tasks.specs.Needs.{need_idle_out}
use Rattle.lab_tasks.proofs.JudgeSwap.{sound_of}
use Rattle.lab_tasks.proofs.Asked.{asked_so, refuses_so}
use Rattle.lab_judge.proofs.search.judge_swapin.Goals as goal

pub returns-in_err-lab-clause-judged : goal.returns-in_err-lab-clause-judged
returns-in_err-lab-clause-judged g c =
    let p = err_from_is_err_and c.from_residual.result c.from_residual.ensures.1 in
    rw (p.1, p.2) (refuses_so (need_idle_out c.args.present.now.state.now.state (has_open c.args.present.now.swaps.now c.args.exp) c.args.exp) _ c.in_err-lab.field-0.0 c.in_err-lab.ensures.refuses)

pub judge_entry-requires-clause-sound : goal.judge_entry-requires-clause-sound
judge_entry-requires-clause-sound g c = sound_of c.args.present.now.state.now.state c.in_ok-lab.lab.now c.in_ok-lab.experiment.now c.in_ok-lab.ensures.out.there

pub returns-clause-judged : goal.returns-clause-judged
returns-clause-judged g c =
    asked_so (need_idle_out c.args.present.now.state.now.state (has_open c.args.present.now.swaps.now c.args.exp) c.args.exp) _ (c.in_ok-lab.lab.now, c.in_ok-lab.experiment.now) c.judge_entry.result c.in_ok-lab.ensures.occupied
    c.judge_entry.ensures.judged
