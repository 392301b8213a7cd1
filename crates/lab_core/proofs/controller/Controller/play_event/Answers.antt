use Rattle.std.proofs.Common.{sym, subst}
use Rattle.lab_core.specs.Controller.{Control, WorksWith, control}
use Rattle.lab_core.specs.PlayList.{JudgedEvent}
use Rattle.lab_core.specs.Perform.{IsReady}
use Rattle.lab_tasks.specs.Tasks.{CanDo, task_of}
use Rattle.lab_core.proofs.Obey.{refuses, wanted}
use Rattle.lab_core.proofs.Plays.{event_done, event_part, event_ready, event_refused, refusal_part}
use Rattle.lab_core.proofs.controller.Controller.play_event.Goals as goal

pub perform-requires-clause-can : goal.perform-requires-clause-can
perform-requires-clause-can g c = subst (λ (k : Control). CanDo k.lab c.in-Ok.task) c.self.view_is c.in-Ok.ensures.can

pub perform-requires-clause-ready : goal.perform-requires-clause-ready
perform-requires-clause-ready g c = subst (λ (k : Control). IsReady k.swaps (task_of c.in-Ok.task)) c.self.view_is (event_ready c.self.inside.lab.state c.self.inside.swaps c.args.exp c.args.text.now c.args.event.now (task_of c.in-Ok.task) c.in-Ok.ensures.judged)

pub returns-in-Ok-clause-obeys : goal.returns-in-Ok-clause-obeys
returns-in-Ok-clause-obeys g c = λ opens devices within works.
    let before = g.P.Plant.seen c.args.plant.now in
    let inside = control c.self.inside.lab.state c.self.inside.journal c.self.inside.swaps in
    let new = c.perform.new.self in
    let works_inside = subst (λ (k : Control). WorksWith before k opens) (sym c.self.view_is) works in
    event_done before inside c.args.self.now c.self.view_is opens works_inside c.args.exp c.args.text.now c.args.event.now devices (g.P.Plant.seen c.perform.new.plant) new (task_of c.in-Ok.task) c.perform.result c.in-Ok.ensures.judged
    (c.perform.ensures.obeyed opens devices (Rattle.std.proofs.Common.Some c.args.exp) within works)

pub returns-in-Ok-clause-part : goal.returns-in-Ok-clause-part
returns-in-Ok-clause-part g c = event_part c.self.inside.lab.state c.self.inside.swaps c.args.exp c.args.text.now c.args.event.now (task_of c.in-Ok.task) c.in-Ok.ensures.judged c.perform.result c.perform.ensures.told

pub returns-in-Err-Refused-clause-obeys : goal.returns-in-Err-Refused-clause-obeys
returns-in-Err-Refused-clause-obeys g c = λ opens devices within works.
    let before = g.P.Plant.seen c.args.plant.now in
    let inside = control c.self.inside.lab.state c.self.inside.journal c.self.inside.swaps in
    let judged = rw c.in-Err-Refused.field-0-is at c.in-Err-Refused.ensures.judged in
    refuses devices before (JudgedEvent c.args.exp c.args.text.now c.args.event.now c.args.self.now.lab opens) c.args.self.now opens (Rattle.std.proofs.Common.Some c.args.exp) c.in-Err-Refused.reply works
    (event_refused before inside c.args.self.now c.self.view_is opens (subst (λ (k : Control). WorksWith before k opens) (sym c.self.view_is) works) c.args.exp c.args.text.now c.args.event.now c.in-Err-Refused.reply judged)

pub returns-in-Err-Refused-clause-part : goal.returns-in-Err-Refused-clause-part
returns-in-Err-Refused-clause-part g c = refusal_part c.self.inside.lab.state c.self.inside.swaps c.args.exp c.args.text.now c.args.event.now c.in-Err-Refused.reply (rw c.in-Err-Refused.field-0-is at c.in-Err-Refused.ensures.judged)

pub returns-in-Err-Memory-clause-obeys : goal.returns-in-Err-Memory-clause-obeys
returns-in-Err-Memory-clause-obeys g c = λ opens devices within works.
    wanted devices (g.P.Plant.seen c.args.plant.now) (JudgedEvent c.args.exp c.args.text.now c.args.event.now c.args.self.now.lab opens) c.args.self.now opens (Rattle.std.proofs.Common.Some c.args.exp) works
