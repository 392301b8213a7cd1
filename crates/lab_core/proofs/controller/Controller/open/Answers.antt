use Rattle.std.proofs.Common.{◌≡◌, ◌∙◌, Err, refl, subst}
use Rattle.std.proofs.lemmas.Result.{err_from_is_err_and}
use Rattle.lab_base.proofs.Tests.{no_error}
use Rattle.lab_core.proofs.Openings.{bad_after}
use Rattle.lab_core.proofs.OpenSwaps.{opened_alone}
use Rattle.lab_core.proofs.SettledOpenings.{not_read, then_broken, then_moved}
use Rattle.lab_core.proofs.controller.Controller.open.Goals as goal

pub returns-in_err-controller-clause-steps : goal.returns-in_err-controller-clause-steps
returns-in_err-controller-clause-steps g c =
    let p = err_from_is_err_and c.from_residual.result c.from_residual.ensures.1 in
    rw (p.1, p.2) (not_read c.args.limit (g.P.Plant.seen c.args.plant.now).told (g.P.Plant.seen c.read.new.plant).told c.in_err-controller.field-0.0 c.in_err-controller.ensures.steps)

pub returns-in_err-controller-clause-bad : goal.returns-in_err-controller-clause-bad
returns-in_err-controller-clause-bad g c =
    let p = err_from_is_err_and c.from_residual.result c.from_residual.ensures.1 in
    rw (p.1, p.2) (λ side at is. bad_after c.args.limit _ _ (Err c.in_err-controller.field-0.0) side at c.in_err-controller.ensures.steps (subst (λ e. Err c.in_err-controller.field-0.0 ≡ e) is refl))

pub settle_all-requires-clause-runs : goal.settle_all-requires-clause-runs
settle_all-requires-clause-runs g c = no_error c.in_ok-controller.controller _ (g.P.Plant.seen c.read.new.plant).stopped c.in_ok-controller.ensures.stopped

pub compact-requires-clause-runs : goal.compact-requires-clause-runs
compact-requires-clause-runs g c = no_error c.in_ok-controller-2.controller _ (g.P.Plant.seen c.settle_all.new.plant).stopped c.in_ok-controller-2.ensures.stopped

pub returns-clause-steps : goal.returns-clause-steps
returns-clause-steps g c =
    let first = c.in_ok-controller in
    let second = c.in_ok-controller-2 in
    then_moved c.args.limit (g.P.Plant.seen c.args.plant.now) (g.P.Plant.seen c.read.new.plant) (g.P.Plant.seen c.settle_all.new.plant) first.controller first.ensures.steps second.controller second.ensures.after first.ensures.works second.ensures.works
    second.ensures.live (g.P.Plant.seen c.compact.new.plant).told c.compact.result c.compact.ensures.after c.compact.ensures.same

pub returns-in_err-controller-2-clause-steps : goal.returns-in_err-controller-2-clause-steps
returns-in_err-controller-2-clause-steps g c =
    let p = err_from_is_err_and c.from_residual-in_err-controller-2.result c.from_residual-in_err-controller-2.ensures.1 in
    let first = c.in_ok-controller in
    rw (p.1, p.2)
    (then_broken c.args.limit (g.P.Plant.seen c.args.plant.now) (g.P.Plant.seen c.read.new.plant) (g.P.Plant.seen c.settle_all.new.plant) first.controller first.ensures.steps c.in_err-controller-2.field-0.0 c.in_err-controller-2.ensures.after)

pub returns-clause-works : goal.returns-clause-works
returns-clause-works g c =
    let last = c.compact.ensures in
    opened_alone (g.P.Plant.seen c.compact.new.plant) c.in_ok-controller-2.controller c.compact.result (c.in_ok-controller-2.ensures.alone ∙ c.in_ok-controller.ensures.alone) last.works last.alone
