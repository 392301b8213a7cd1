use Rattle.std.proofs.Common.{◌+◌, List, drop, refl, ap, subst, arith}
use Rattle.std.proofs.lemmas.Result.{err_from_is_err_and}
use Rattle.lab_base.proofs.Lists.{item_at}
use Rattle.lab_base.proofs.Members.{Has-at}
use Rattle.ns_events.specs.declared.event.Event.{Event as LinkEvent}
use Rattle.lab_tasks.specs.Playing.{first_place}
use Rattle.lab_core.proofs.InTurn.{all_done, ends_there, fails_there, goes_further, going, starts, works_further}
use Rattle.lab_tasks.proofs.Drops.{drop_all}
use Rattle.lab_core.proofs.HowFar.{ComesTo}
use Rattle.lab_core.proofs.controller.Controller.play_events.Goals as goal

pub loop-event-init : goal.loop-event-init
loop-event-init g c = record {
  within = omega arith;
  counted = refl;
  can = c.requires.works;
  comes = starts c.args.exp c.args.text.now c.args.due.now (g.P.Plant.seen c.args.plant.now) c.args.self.now;
}

pub play_next-requires-clause-limits : goal.play_next-requires-clause-limits
play_next-requires-clause-limits g c = c.requires.limits c.event-item.result (Has-at c.args.due.now c.loop-event.event-index c.event-item.result c.loop-event-test.true c.event-item.is)

pub returns-in_err-reply : goal.returns-in_err-reply
returns-in_err-reply g c =
    let p = err_from_is_err_and c.from_residual.result c.from_residual.ensures.1 in
    let i = c.loop-event.event-index in
    let due = c.args.due.now in
    let x = c.event-item.result in
    let start = first_place c.args.text.now due in
    let comes = subst (λ (l : List LinkEvent). ComesTo c.args.exp start (g.P.Plant.seen c.args.plant.now) (g.P.Plant.seen c.loop-event.plant) c.args.self.now c.loop-event.self (going c.args.exp c.args.text.now l c.loop-event.played)) (item_at due i x c.loop-event-test.true c.event-item.is) c.loop-event.invariant.comes in
    rw (p.1, p.2)
    (fails_there c.args.exp start (g.P.Plant.seen c.args.plant.now) (g.P.Plant.seen c.loop-event.plant) (g.P.Plant.seen c.play_next.new.plant) c.args.self.now c.loop-event.self c.play_next.new.self c.args.text.now x (drop (i + 1) due) c.loop-event.played comes
    c.in_err-reply.field-0.0 c.in_err-reply.ensures)

pub returns-in-Some : goal.returns-in-Some
returns-in-Some g c =
    let i = c.loop-event.event-index in
    let due = c.args.due.now in
    let x = c.event-item.result in
    let start = first_place c.args.text.now due in
    let comes = subst (λ (l : List LinkEvent). ComesTo c.args.exp start (g.P.Plant.seen c.args.plant.now) (g.P.Plant.seen c.loop-event.plant) c.args.self.now c.loop-event.self (going c.args.exp c.args.text.now l c.loop-event.played)) (item_at due i x c.loop-event-test.true c.event-item.is) c.loop-event.invariant.comes in
    ends_there c.args.exp start (g.P.Plant.seen c.args.plant.now) (g.P.Plant.seen c.loop-event.plant) (g.P.Plant.seen c.play_next.new.plant) c.args.self.now c.loop-event.self c.play_next.new.self c.args.text.now x (drop (i + 1) due) c.loop-event.played comes
    c.in-Some.reply (rw c.in-Some.is at c.in_ok-reply.ensures)

pub loop-event-preserved : goal.loop-event-preserved
loop-event-preserved g c =
    let i = c.loop-event.event-index in
    let due = c.args.due.now in
    let x = c.event-item.result in
    let start = first_place c.args.text.now due in
    let comes = subst (λ (l : List LinkEvent). ComesTo c.args.exp start (g.P.Plant.seen c.args.plant.now) (g.P.Plant.seen c.loop-event.plant) c.args.self.now c.loop-event.self (going c.args.exp c.args.text.now l c.loop-event.played)) (item_at due i x c.loop-event-test.true c.event-item.is) c.loop-event.invariant.comes in
    let ends = rw c.in-None.is at c.in_ok-reply.ensures in
    record {
      within = omega (arith, c.loop-event-test.true);
      counted = ap (λ n. n + 1) c.loop-event.invariant.counted;
      can = works_further c.args.exp start (g.P.Plant.seen c.args.plant.now) (g.P.Plant.seen c.loop-event.plant) (g.P.Plant.seen c.play_next.new.plant) c.args.self.now c.loop-event.self c.play_next.new.self c.args.text.now x (drop (i + 1) due) c.loop-event.played comes
          c.loop-event.invariant.can ends;
      comes = goes_further c.args.exp start (g.P.Plant.seen c.args.plant.now) (g.P.Plant.seen c.loop-event.plant) (g.P.Plant.seen c.play_next.new.plant) c.args.self.now c.loop-event.self c.play_next.new.self c.args.text.now x (drop (i + 1) due) c.loop-event.played comes ends;
    }

pub returns : goal.returns
returns g c = λ opens devices within works none.
    let due = c.args.due.now in
    let start = first_place c.args.text.now due in
    let comes = subst (λ (l : List LinkEvent). ComesTo c.args.exp start (g.P.Plant.seen c.args.plant.now) (g.P.Plant.seen c.loop-event.plant) c.args.self.now c.loop-event.self (going c.args.exp c.args.text.now l c.loop-event.played)) (drop_all due c.loop-event.event-index (omega (arith, c.loop-event-test.false))) c.loop-event.invariant.comes in
    rw c.played_all.ensures (all_done c.args.exp start (g.P.Plant.seen c.args.plant.now) (g.P.Plant.seen c.loop-event.plant) c.args.self.now c.loop-event.self c.args.text.now c.loop-event.played comes opens devices within works none)
