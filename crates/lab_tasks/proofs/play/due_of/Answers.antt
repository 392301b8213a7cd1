use Rattle.std.proofs.Common.{List, refl, sym, subst}
use Rattle.lab_base.specs.Lists.{Has}
use Rattle.ns_events.specs.Schedules.{IsSchedule}
use Rattle.ns_events.specs.declared.event.Event.{Event as LinkEvent}
use Rattle.lab_tasks.proofs.JudgePlay.{due_has}
use Rattle.lab_tasks.proofs.play.due_of.Goals as goal

pub returns-in-Ok-clause-due : goal.returns-in-Ok-clause-due
returns-in-Ok-clause-due c = record {
  due = c.from_vec.result;
  schedule = subst (λ (l : List LinkEvent). IsSchedule c.args.span.from c.args.span.to c.args.script.events l) (sym c.from_vec.ensures)
      (subst (λ (l : List LinkEvent). IsSchedule c.args.span.from c.args.span.to l c.in-Ok.due.items) c.as_slice.ensures c.in-Ok.ensures.schedule);
  is = refl;
}

pub returns-in-Ok-clause-can : goal.returns-in-Ok-clause-can
returns-in-Ok-clause-can c = record {
  sound = c.requires.sound;
  limits = λ e has.
      c.requires.limits e (due_has c.args.span.from c.args.span.to c.args.script.events c.in-Ok.due.items
      (subst (λ (l : List LinkEvent). IsSchedule c.args.span.from c.args.span.to l c.in-Ok.due.items) c.as_slice.ensures c.in-Ok.ensures.schedule) e
      (subst (λ (l : List LinkEvent). Has l e) c.from_vec.ensures has));
}
