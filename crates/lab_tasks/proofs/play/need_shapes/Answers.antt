use Rattle.std.proofs.Common.{◌+◌, List, drop, ap, refl, sym, ◌∙◌, subst, Err, arith}
use Rattle.std.proofs.lemmas.Result.{err_from_is_err_and}
use Rattle.lab_base.proofs.Lists.{item_at}
use Rattle.ns_events.specs.declared.event.Event.{Event as LinkEvent}
use Rattle.lab_tasks.specs.Playing.{need_shapes}
use Rattle.lab_tasks.specs.Tasks.{Refuses}
use Rattle.lab_tasks.proofs.Drops.{drop_all}
use Rattle.lab_tasks.proofs.JudgePlay.{first_lacks, next_shaped}
use Rattle.lab_tasks.proofs.play.need_shapes.Goals as goal

pub loop-event-init : goal.loop-event-init
loop-event-init c = record { within = omega arith; rest = refl }

pub returns-in_err-need_shape-clause-refuses : goal.returns-in_err-need_shape-clause-refuses
returns-in_err-need_shape-clause-refuses c =
    let p = err_from_is_err_and c.from_residual.result c.from_residual.ensures.1 in
    let events = c.args.events.now in
    let i = c.loop-event.event-index in
    let event = c.event-item.result in
    rw (p.1, p.2)
    (subst (λ r. Refuses {X = Unit {0}} r (Err c.in_err-need_shape.field-0.0)) (sym (c.loop-event.invariant.rest ∙ ap (λ (l : List LinkEvent). need_shapes c.args.exp c.args.text.now l c.args.now.now) (item_at events i event c.loop-event-test.true c.event-item.is)))
    (first_lacks c.args.exp c.args.text.now event (drop (i + 1) events) c.args.now.now c.in_err-need_shape.field-0.0 c.in_err-need_shape.ensures.refuses))

pub loop-event-preserved : goal.loop-event-preserved
loop-event-preserved c =
    let events = c.args.events.now in
    let i = c.loop-event.event-index in
    let event = c.event-item.result in
    record {
      within = omega (arith, c.loop-event-test.true);
      rest = c.loop-event.invariant.rest ∙ ap (λ (l : List LinkEvent). need_shapes c.args.exp c.args.text.now l c.args.now.now) (item_at events i event c.loop-event-test.true c.event-item.is)
          ∙ next_shaped c.args.exp c.args.text.now event (drop (i + 1) events) c.args.now.now c.in_ok-need_shape.ensures.shaped;
    }

pub returns-clause-shaped : goal.returns-clause-shaped
returns-clause-shaped c = c.loop-event.invariant.rest ∙ ap (λ (l : List LinkEvent). need_shapes c.args.exp c.args.text.now l c.args.now.now) (drop_all c.args.events.now c.loop-event.event-index (omega (arith, c.loop-event-test.false)))
