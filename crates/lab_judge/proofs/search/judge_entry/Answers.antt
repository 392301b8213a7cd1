use Rattle.std.proofs.Common.{Ok, Err, Result, ap, sym}
use Rattle.std.proofs.lemmas.Result.{err_from_is_err_and}
use Rattle.script_text.specs.declared.reply.Reply.{Reply}
use Rattle.lab_tasks.specs.Tasks.{Task}
use Rattle.lab_judge.specs.Searches.{judged_entry, need_mapping}
use Rattle.lab_judge.proofs.Judgements.{found_so}
use Rattle.lab_tasks.proofs.Checks.{given_by, refused_by}
use Rattle.lab_judge.proofs.search.judge_entry.Goals as goal

pub search-requires-clause-there : goal.search-requires-clause-there
search-requires-clause-there g c = c.requires.out.there

pub returns-in_err-mapping-clause-judged : goal.returns-in_err-mapping-clause-judged
returns-in_err-mapping-clause-judged g c =
    let p = err_from_is_err_and c.from_residual-in_err-mapping.result c.from_residual-in_err-mapping.ensures.1 in
    rw (p.1, p.2)
    (found_so c.args.rule.now.number c.args.case.now.state.now.state c.args.case.now.lab.now c.args.case.now.experiment.now c.args.case.now.experiment.now.wiring c.args.seed (judged_entry c.args.case.now.state.now.state c.args.case.now.lab.now c.args.case.now.experiment.now) c.in_ok-found.found (Err c.in_err-mapping.field-0.0) c.in_ok-found.ensures.found
    (refused_by (need_mapping c.args.case.now.experiment.now.name c.in_ok-found.found) _ c.in_err-mapping.field-0.0 c.in_err-mapping.ensures.refuses))

pub returns-clause-judged : goal.returns-clause-judged
returns-clause-judged g c =
    found_so c.args.rule.now.number c.args.case.now.state.now.state c.args.case.now.lab.now c.args.case.now.experiment.now c.args.case.now.experiment.now.wiring c.args.seed (judged_entry c.args.case.now.state.now.state c.args.case.now.lab.now c.args.case.now.experiment.now) c.in_ok-found.found (Ok c.in_ok-task.task) c.in_ok-found.ensures.found
    (given_by (need_mapping c.args.case.now.experiment.now.name c.in_ok-found.found) _ c.in_ok-mapping.mapping (Ok c.in_ok-task.task) c.in_ok-mapping.ensures.mapping
    (ap (λ (t : Task). let j : Result Task Reply = Ok t in j) (sym c.in_ok-task.ensures.task)))
