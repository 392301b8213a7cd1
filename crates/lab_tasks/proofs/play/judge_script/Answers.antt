use Rattle.std.proofs.Common.{◌≡◌, List, subst, Err, Ok}
use Rattle.ns_events.specs.declared.event.Event.{Event as LinkEvent}
use Rattle.lab_tasks.specs.Needs.{asked}
use Rattle.lab_tasks.specs.Playing.{AreDue, need_shapes}
use Rattle.lab_tasks.specs.Tasks.{Refuses}
use Rattle.lab_tasks.proofs.JudgePlay.{list_refused}
use Rattle.lab_tasks.proofs.play.judge_script.Goals as goal

pub returns-in-Err-clause-judged : goal.returns-in-Err-clause-judged
returns-in-Err-clause-judged c =
    list_refused (need_shapes c.args.exp c.args.script.wiring c.args.script.events c.args.now.now) (λ shaped. AreDue c.args.span.from c.args.span.to c.args.script) c.in-Err.refusal
    (subst (λ (l : List LinkEvent). Refuses {X = Unit {0}} (need_shapes c.args.exp c.args.script.wiring l c.args.now.now) (Err c.in-Err.refusal)) c.as_slice-events.ensures c.in-Err.ensures.refuses)

pub returns-clause-judged : goal.returns-clause-judged
returns-clause-judged c =
    asked tt (subst (λ (l : List LinkEvent). need_shapes c.args.exp c.args.script.wiring l c.args.now.now ≡ Ok tt) c.as_slice-events.ensures c.in_default.ensures.shaped) c.in_ok-play.ensures.due
