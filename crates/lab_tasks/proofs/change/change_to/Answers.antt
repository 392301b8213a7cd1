use Rattle.std.proofs.Common.{IfOk, sym, subst}
use Rattle.virt_topo.specs.declared.mapping.Mapped.{Mapped}
use Rattle.virt_topo.specs.Wirings.{mapped}
use Rattle.swap_plan.specs.Plans.{IsFit}
use Rattle.lab_tasks.specs.JudgeSwap.{IsTaskOf, change_of, way_over}
use Rattle.lab_tasks.proofs.JudgeSwap.{change_if, ids_fit, new_fit, old_fit}
use Rattle.lab_tasks.proofs.change.change_to.Goals as goal

pub take_tags-requires-clause-there : goal.take_tags-requires-clause-there
take_tags-requires-clause-there c = c.requires.inside.there

pub take_tags-requires-clause-keeps : goal.take_tags-requires-clause-keeps
take_tags-requires-clause-keeps c = (c.args.mapping, c.requires.keeps)

pub plan_swap_over-planned-requires-clause-old_fit : goal.plan_swap_over-planned-requires-clause-old_fit
plan_swap_over-planned-requires-clause-old_fit c =
    subst (λ (m : Mapped). IsFit c.args.case.now.lab.now m) (sym c.in_ok-old.ensures)
    (old_fit c.args.case.now.state.now.state c.args.case.now.lab.now c.args.case.now.experiment.now c.args.occupied.0.now c.args.occupied.1.now c.args.wiring c.args.mapping c.in_ok-tags.tags c.requires.inside c.requires.sound c.requires.keeps.shaped)

pub plan_swap_over-planned-requires-clause-new_fit : goal.plan_swap_over-planned-requires-clause-new_fit
plan_swap_over-planned-requires-clause-new_fit c =
    new_fit c.args.case.now.state.now.state c.args.case.now.lab.now c.args.case.now.experiment.now c.args.occupied.0.now c.args.occupied.1.now c.args.wiring c.args.mapping c.in_ok-tags.tags c.requires.inside c.requires.sound c.requires.keeps.shaped (c.in_ok-tags.ensures c.args.mapping c.requires.keeps)

pub plan_swap_over-planned-requires-clause-ids : goal.plan_swap_over-planned-requires-clause-ids
plan_swap_over-planned-requires-clause-ids c = ids_fit c.args.case.now.state.now.state c.args.case.now.lab.now c.args.case.now.experiment.now c.args.wiring c.args.mapping c.in_ok-tags.tags c.requires.inside.there (c.in_ok-tags.ensures c.args.mapping c.requires.keeps)

pub returns-clause-task : goal.returns-clause-task
returns-clause-task c =
    (change_if c.args.case.now.state.now.state c.args.case.now.lab.now c.args.case.now.experiment.now c.args.occupied.0.now c.args.occupied.1.now c.args.wiring c.args.mapping c.in_ok-tags.tags c.requires.inside c.requires.sound c.requires.keeps (c.in_ok-tags.ensures c.args.mapping c.requires.keeps) c.plan_swap_over-planned.result c.plan_swap_over-planned.ensures.printable
    (subst (λ (m : Mapped). IfOk c.plan_swap_over-planned.result (IsTaskOf c.args.case.now.lab.now (change_of c.args.case.now.experiment.now.name m (mapped c.args.wiring c.args.mapping c.in_ok-tags.tags)) (way_over c.args.case.now.lab.now (mapped c.args.wiring c.args.mapping c.in_ok-tags.tags)))) c.in_ok-old.ensures c.plan_swap_over-planned.ensures.task)).0

pub returns-clause-can : goal.returns-clause-can
returns-clause-can c =
    (change_if c.args.case.now.state.now.state c.args.case.now.lab.now c.args.case.now.experiment.now c.args.occupied.0.now c.args.occupied.1.now c.args.wiring c.args.mapping c.in_ok-tags.tags c.requires.inside c.requires.sound c.requires.keeps (c.in_ok-tags.ensures c.args.mapping c.requires.keeps) c.plan_swap_over-planned.result c.plan_swap_over-planned.ensures.printable
    (subst (λ (m : Mapped). IfOk c.plan_swap_over-planned.result (IsTaskOf c.args.case.now.lab.now (change_of c.args.case.now.experiment.now.name m (mapped c.args.wiring c.args.mapping c.in_ok-tags.tags)) (way_over c.args.case.now.lab.now (mapped c.args.wiring c.args.mapping c.in_ok-tags.tags)))) c.in_ok-old.ensures c.plan_swap_over-planned.ensures.task)).1
