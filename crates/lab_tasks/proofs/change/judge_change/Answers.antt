use Rattle.std.proofs.Common.{Ok, Result, ap, sym, ◌∙◌}
use Rattle.script_text.specs.declared.reply.Reply.{Reply}
use Rattle.lab_tasks.specs.Tasks.{Task}
use Rattle.lab_tasks.specs.Needs.{need_feasible}
use Rattle.lab_tasks.proofs.JudgeSwap.{change_is}
use Rattle.lab_tasks.proofs.Checks.{refused_by}
use Rattle.lab_tasks.proofs.change.judge_change.Goals as goal

pub need_feasible-requires-clause-there : goal.need_feasible-requires-clause-there
need_feasible-requires-clause-there c = c.requires.inside.there

pub returns-in-Err-clause-judged : goal.returns-in-Err-clause-judged
returns-in-Err-clause-judged c =
    refused_by (need_feasible c.args.case.now.lab.now c.args.case.now.state.now.state.experiments c.args.case.now.experiment.now c.args.wiring c.args.mapping) _ c.in-Err.refusal c.in-Err.ensures.refuses

pub returns-clause-judged : goal.returns-clause-judged
returns-clause-judged c =
    change_is c.args.case.now.state.now.state c.args.case.now.lab.now c.args.case.now.experiment.now c.args.wiring c.args.mapping c.in_default.ensures.keeps ∙ ap (λ (t : Task). let j : Result Task Reply = Ok t in j) (sym c.in_ok-task.ensures.task)
