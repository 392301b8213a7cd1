use Rattle.std.proofs.Common.{◌≡◌, ◌∙◌, Ok, Err, refl, sym, ap, subst, rules}
use Rattle.plant.specs.declared.device.Fault.TheVariants as faults
use Rattle.lab_base.specs.declared.what.What.TheVariants as whats
use Rattle.lab_model.specs.Courses.{device}
use Rattle.swap_txn.specs.declared.stage.Stage.TheVariants.{Done}
use Rattle.swap_txn.specs.declared.turned.Turned.TheVariants.{Stopped}
use Rattle.swap_txn.specs.Going.{CutBack}
use Rattle.swap_txn.specs.Turns.{SentBy}
use Rattle.swap_txn.specs.Turns as turning
use Rattle.swap_txn.specs.Ways.{view_in}
use Rattle.swap_txn.proofs.Stepping.{device_is, faulted}
use Rattle.swap_txn.proofs.Turning.{finished, next_at, sends_by, sent_failed}
use Rattle.swap_txn.proofs.work.Work.turn.Goals as goal

pub returns-then-eq-clause-turns : goal.returns-then-eq-clause-turns
returns-then-eq-clause-turns g c =
    let self = c.args.self in
    let here : c.stage.result ≡ Done = search rules in
    let w = c.end.ensures.writes in
    turning.writes (finished self.plan self.left (sym c.stage.ensures ∙ here)) w.0 w.1 w.2

pub returns-in-Ok-clause-turns : goal.returns-in-Ok-clause-turns
returns-in-Ok-clause-turns g c =
    let self = c.args.self in
    let e = c.command.ensures in
    let comes = next_at (view_in c.self.inside) self c.next-op.result c.self.view_is c.next-op.ensures in
    sends_by self _ _ _ c.next-op.result c.command.result (Ok c.in-Ok.answer) _ comes (record { steps = e.trace.0; trace = e.trace.1; made = e.trace.2; cause = e.cause; halts = e.stopped }) c.in-Ok.is c.go_on.ensures.goes

pub returns-in-Err-Failed-clause-turns : goal.returns-in-Err-Failed-clause-turns
returns-in-Err-Failed-clause-turns g c =
    let self = c.args.self in
    let e = c.command.ensures in
    let op = c.next-op.result in
    let comes = next_at (view_in c.self.inside) self op c.self.view_is c.next-op.ensures in
    let is = c.in-Err-Failed.is ∙ ap (λ f. Err f) c.in-Err-Failed.field-0-is in
    let back = subst (λ name. CutBack self (whats.Device name) self.undo c.turn_back.result) (c.device.ensures ∙ device_is op) c.turn_back.ensures in
    sends_by self _ _ _ op c.command.result (Err faults.Failed) _ comes (record { steps = e.trace.0; trace = e.trace.1; made = e.trace.2; cause = e.cause; halts = e.stopped }) is
    (subst (λ course. SentBy self course c.turn_back.result) (sym (faulted self.left op faults.Failed comes)) (sent_failed self (device op) c.turn_back.result back))

pub returns-in-Err-Stopped-clause-turns : goal.returns-in-Err-Stopped-clause-turns
returns-in-Err-Stopped-clause-turns g c =
    let self = c.args.self in
    let e = c.command.ensures in
    let op = c.next-op.result in
    let comes = next_at (view_in c.self.inside) self op c.self.view_is c.next-op.ensures in
    let is = c.in-Err-Stopped.is ∙ ap (λ f. Err f) c.in-Err-Stopped.field-0-is in
    sends_by self _ _ _ op c.command.result (Err faults.Stopped) Stopped comes (record { steps = e.trace.0; trace = e.trace.1; made = e.trace.2; cause = e.cause; halts = e.stopped }) is
    (subst (λ course. SentBy self course Stopped) (sym (faulted self.left op faults.Stopped comes)) refl)
