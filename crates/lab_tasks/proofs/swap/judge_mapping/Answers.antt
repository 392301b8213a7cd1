use Rattle.std.proofs.Common.{Ok, Result, ap, sym, ◌∙◌}
use Rattle.script_text.specs.declared.reply.Reply.{Reply}
use Rattle.lab_tasks.specs.Tasks.{Task}
use Rattle.lab_tasks.specs.Needs.{need_feasible}
use Rattle.lab_tasks.proofs.JudgeSwap.{entry_is, sound_of}
use Rattle.lab_tasks.proofs.Checks.{refused_by}
use Rattle.std.proofs.lemmas.Result.{err_from_is_err_and}
use Rattle.lab_tasks.proofs.swap.judge_mapping.Goals as goal

pub need_feasible-requires-clause-there : goal.need_feasible-requires-clause-there
need_feasible-requires-clause-there c = c.requires.out.there

pub need_feasible-requires-clause-sound : goal.need_feasible-requires-clause-sound
need_feasible-requires-clause-sound c = sound_of c.args.case.now.state.now.state c.args.case.now.lab.now c.args.case.now.experiment.now c.requires.out.there

pub returns-in_err-need_feasible-clause-judged : goal.returns-in_err-need_feasible-clause-judged
returns-in_err-need_feasible-clause-judged c =
    let p = err_from_is_err_and c.from_residual.result c.from_residual.ensures.1 in
    rw (p.1, p.2) (refused_by (need_feasible c.args.case.now.lab.now c.args.case.now.state.now.state.experiments c.args.case.now.experiment.now c.args.case.now.experiment.now.wiring c.args.mapping.now) _ c.in_err-need_feasible.field-0.0 c.in_err-need_feasible.ensures.refuses)

pub returns-clause-judged : goal.returns-clause-judged
returns-clause-judged c =
    entry_is c.args.case.now.state.now.state c.args.case.now.lab.now c.args.case.now.experiment.now c.args.mapping.now c.in_ok-need_feasible.ensures.keeps ∙ ap (λ (t : Task). let j : Result Task Reply = Ok t in j) (sym c.in_ok-task.ensures.task)
