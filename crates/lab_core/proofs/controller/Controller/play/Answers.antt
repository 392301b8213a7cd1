use Rattle.std.proofs.Common.{List, Ok, sym, subst}
use Rattle.ns_events.specs.declared.event.Event.{Event as LinkEvent}
use Rattle.lab_core.specs.Controller.{Control, WorksWith, control}
use Rattle.lab_core.specs.InTurn.{ObeysEvents}
use Rattle.lab_tasks.specs.JudgePlay.{place_of}
use Rattle.lab_tasks.specs.Playing.{first_place}
use Rattle.lab_core.proofs.Plays.{play_beside, play_listed, play_refused, play_wanted}
use Rattle.lab_core.proofs.controller.Controller.play.Goals as goal

pub returns-in-Ok : goal.returns-in-Ok
returns-in-Ok g c = λ rule lines opens devices within works.
    let before = g.P.Plant.seen c.args.plant.now in
    let inside = control c.self.inside.lab.state c.self.inside.journal c.self.inside.swaps in
    let works_inside = subst (λ (k : Control). WorksWith before k opens) (sym c.self.view_is) works in
    let judged = play_beside before inside c.args.self.now c.self.view_is opens works_inside c.args.exp c.args.span.from c.args.span.to c.args.text.now (Ok (place_of c.in-Ok.play)) c.in-Ok.ensures.judged in
    play_listed rule c.args.exp c.args.span.from c.args.span.to lines c.args.text.now devices opens before (g.P.Plant.seen c.play_events.new.plant) c.args.self.now c.play_events.new.self (place_of c.in-Ok.play) judged c.play_events.result
    (λ none. subst (λ (l : List LinkEvent). ObeysEvents c.args.exp (first_place c.in-Ok.play.text l) devices before (g.P.Plant.seen c.play_events.new.plant) c.args.self.now c.play_events.new.self opens c.play_events.result) c.as_slice.ensures
    (c.play_events.ensures opens devices within works none))

pub returns-in-Err-Refused : goal.returns-in-Err-Refused
returns-in-Err-Refused g c = rw c.in-Err-Refused.field-0-is (λ rule lines opens devices within works.
    let before = g.P.Plant.seen c.args.plant.now in
    let inside = control c.self.inside.lab.state c.self.inside.journal c.self.inside.swaps in
    let works_inside = subst (λ (k : Control). WorksWith before k opens) (sym c.self.view_is) works in
    let judged = rw c.in-Err-Refused.field-0-is at c.in-Err-Refused.ensures.judged in
    play_refused rule c.args.exp c.args.span.from c.args.span.to lines c.args.text.now devices opens before c.args.self.now works c.in-Err-Refused.reply
    (play_beside before inside c.args.self.now c.self.view_is opens works_inside c.args.exp c.args.span.from c.args.span.to c.args.text.now (Rattle.std.proofs.Common.Err c.in-Err-Refused.reply) judged.0, judged.1))

pub returns-in-Err-Memory : goal.returns-in-Err-Memory
returns-in-Err-Memory g c = λ rule lines opens devices within works.
    play_wanted rule c.args.exp c.args.span.from c.args.span.to lines c.args.text.now devices opens (g.P.Plant.seen c.args.plant.now) c.args.self.now works
