use Rattle.std.proofs.Common.{refl}
use Rattle.std.proofs.lemmas.Result.{err_from_is_err_and}
use Rattle.lab_judge.specs.JudgeRun.{space_in}
use Rattle.lab_judge.proofs.JudgeRun.{place_refused, place_tested}
use Rattle.lab_judge.proofs.run.judge_found.Goals as goal

pub returns-in_err-mapping-clause-judged : goal.returns-in_err-mapping-clause-judged
returns-in_err-mapping-clause-judged g c =
    let p = err_from_is_err_and c.from_residual-in_err-mapping.result c.from_residual-in_err-mapping.ensures.1 in
    let queue = c.args.queue.now in
    rw (p.1, p.2)
    (place_refused c.args.rule.now.number queue.moment queue.promises queue.ends c.args.run.now (λ entry. space_in c.args.space entry) c.args.case.now.state.now.state c.args.case.now.lab.now c.args.case.now.experiment.now c.in_ok-found.found c.in_ok-found.ensures.found
    c.in_err-mapping.field-0.0 c.in_err-mapping.ensures.refuses)

pub returns-clause-judged : goal.returns-clause-judged
returns-clause-judged g c =
    let queue = c.args.queue.now in
    place_tested c.args.rule.now.number queue.moment queue.promises queue.ends c.args.run.now (λ entry. space_in c.args.space entry) c.args.case.now.state.now.state c.args.case.now.lab.now c.args.case.now.experiment.now c.in_ok-found.found c.in_ok-found.ensures.found queue refl
    c.in_ok-mapping.mapping c.in_ok-mapping.ensures.mapping c.judge_place.result c.judge_place.ensures.judged
