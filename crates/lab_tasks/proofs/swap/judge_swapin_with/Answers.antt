use Rattle.std.proofs.lemmas.Result.{err_from_is_err_and}
use Rattle.script_text.specs.declared.reply.Reply.TheVariants.{Bad}
use Rattle.solution_text.specs.Solutions.{mapping_of_text}
use Rattle.std.proofs.Common.{Err}
use Rattle.lab_tasks.specs.Needs.{need_idle_out}
use Rattle.lab_tasks.specs.OpenNames.{has_open}
use Rattle.lab_tasks.proofs.Checks.{faulty_by, given_by, meant_by, refused_by}
use Rattle.lab_tasks.proofs.swap.judge_swapin_with.Goals as goal

pub returns-in_err-lab-clause-judged : goal.returns-in_err-lab-clause-judged
returns-in_err-lab-clause-judged c =
    let p = err_from_is_err_and c.from_residual.result c.from_residual.ensures.1 in
    rw (p.1, p.2) (refused_by (need_idle_out c.args.present.now.state.now.state (has_open c.args.present.now.swaps.now c.args.exp) c.args.exp) _ c.in_err-lab.field-0.0 c.in_err-lab.ensures.refuses)

pub judge_mapping-requires-clause-shaped : goal.judge_mapping-requires-clause-shaped
judge_mapping-requires-clause-shaped c = c.in-Ok.ensures.shaped

pub returns-in-Ok-clause-judged : goal.returns-in-Ok-clause-judged
returns-in-Ok-clause-judged c =
    given_by (need_idle_out c.args.present.now.state.now.state (has_open c.args.present.now.swaps.now c.args.exp) c.args.exp) _ (c.in_ok-lab.lab.now, c.in_ok-lab.experiment.now) c.judge_mapping.result c.in_ok-lab.ensures.occupied
    (meant_by (Bad c.args.exp) (mapping_of_text c.in_ok-lab.lab.now c.in_ok-lab.experiment.now.wiring c.args.text.now) _ c.in-Ok.mapping c.judge_mapping.result c.in-Ok.ensures.reads c.judge_mapping.ensures.judged)

pub returns-in-Err-clause-judged : goal.returns-in-Err-clause-judged
returns-in-Err-clause-judged c =
    given_by (need_idle_out c.args.present.now.state.now.state (has_open c.args.present.now.swaps.now c.args.exp) c.args.exp) _ (c.in_ok-lab.lab.now, c.in_ok-lab.experiment.now) (Err c.bad_text.result) c.in_ok-lab.ensures.occupied
    (faulty_by (Bad c.args.exp) (mapping_of_text c.in_ok-lab.lab.now c.in_ok-lab.experiment.now.wiring c.args.text.now) _ c.in-Err.refused c.bad_text.result c.in-Err.ensures.reads c.bad_text.ensures)
