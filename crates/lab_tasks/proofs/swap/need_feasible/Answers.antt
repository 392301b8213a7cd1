use Rattle.std.proofs.Common.{Some, sym, ap, ◌∙◌}
use Rattle.lab_tasks.specs.Needs.{need_kept}
use Rattle.lab_tasks.proofs.JudgeSwap.{checks, is_none_not, keeps_so, left_is, refuses_as}
use Rattle.lab_tasks.proofs.swap.need_feasible.Goals as goal

pub unreachable-requires : goal.unreachable-requires
unreachable-requires c = is_none_not c.args.case.now.state.now.state.lab c.args.case.now.lab.now (sym c.in_default.ensures.some) c.requires.there.is_lab

pub check-requires-clause-free : goal.check-requires-clause-free
check-requires-clause-free c = (left_is c.args.case.now.state.now.state c.args.case.now.lab.now c.args.case.now.experiment.now c.in-Some.claims.now c.requires.there c.in-Some.ensures.claims c.in_ok-free.free c.in_ok-free.ensures).sizes

pub returns-in-Ok-clause-keeps : goal.returns-in-Ok-clause-keeps
returns-in-Ok-clause-keeps c = keeps_so c.args.case.now.state.now.state c.args.case.now.lab.now c.args.case.now.experiment.now c.in-Some.claims.now c.requires.there c.in-Some.ensures.claims c.args.wiring.now c.args.mapping.now c.in_ok-free.free c.in_ok-free.ensures c.requires.shaped c.in-Ok.ensures

pub returns-in-Err-Violation-clause-refuses : goal.returns-in-Err-Violation-clause-refuses
returns-in-Err-Violation-clause-refuses c =
    let found = rw c.in-Err-Violation.field-0-is at c.in-Err-Violation.ensures in
    refuses_as (Unit {0}) _ (need_kept c.args.case.now.lab.now c.args.case.now.experiment.now.name c.args.wiring.now (Some (c.in-Err-Violation.rule, c.in-Err-Violation.subject))) c.infeasible.result
    (ap (λ v. need_kept c.args.case.now.lab.now c.args.case.now.experiment.now.name c.args.wiring.now v)
    (sym found ∙ checks c.args.case.now.state.now.state c.args.case.now.lab.now c.args.case.now.experiment.now c.in-Some.claims.now c.requires.there c.in-Some.ensures.claims c.args.wiring.now c.args.mapping.now c.in_ok-free.free c.in_ok-free.ensures c.requires.shaped)) c.infeasible.ensures
