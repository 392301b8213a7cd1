use Rattle.std.proofs.Common.{Some, sym, subst}
use Rattle.lab_core.specs.Controller.{Control, WorksWith, control}
use Rattle.lab_core.specs.LabSteps.{has_space}
use Rattle.lab_core.specs.Obey.{start_of}
use Rattle.lab_judge.specs.JudgeRun.{space_in}
use Rattle.lab_core.specs.BatchList.{JudgedRun}
use Rattle.lab_core.specs.Perform.{IsReady}
use Rattle.lab_tasks.specs.Tasks.{CanDo, task_of}
use Rattle.lab_core.proofs.Obey.{refuses, wanted}
use Rattle.lab_core.proofs.Served.{idle_beside, mild_idle, refusal_part, run_done, run_idle, run_part, run_ready, run_refused}
use Rattle.lab_core.proofs.controller.Controller.serve_run.Goals as goal

pub perform-requires-clause-can : goal.perform-requires-clause-can
perform-requires-clause-can g c = subst (λ (k : Control). CanDo k.lab c.in-Ok.task) c.self.view_is c.in-Ok.ensures.can

pub perform-requires-clause-ready : goal.perform-requires-clause-ready
perform-requires-clause-ready g c =
    let q = c.args.queue.now in
    subst (λ (k : Control). IsReady k.swaps (task_of c.in-Ok.task)) c.self.view_is (run_ready c.self.inside.lab.state c.self.inside.swaps c.args.rule.now.number q.moment q.promises q.ends c.args.run.now (λ entry. space_in c.space_of-space.result entry) (task_of c.in-Ok.task) c.in-Ok.ensures.judged)

pub returns-in-Ok-clause-obeys : goal.returns-in-Ok-clause-obeys
returns-in-Ok-clause-obeys g c = λ opens devices within works.
    let q = c.args.queue.now in
    let before = g.P.Plant.seen c.args.plant.now in
    let inside = control c.self.inside.lab.state c.self.inside.journal c.self.inside.swaps in
    let new = c.perform.new.self in
    let works_inside = subst (λ (k : Control). WorksWith before k opens) (sym c.self.view_is) works in
    record {
      obeyed = run_done before inside c.args.self.now c.self.view_is opens works_inside c.args.rule.now.number q.moment q.promises q.ends c.args.run.now devices (g.P.Plant.seen c.perform.new.plant) new (task_of c.in-Ok.task) c.perform.result (rw c.space_of-space.ensures at c.in-Ok.ensures.judged)
          (c.perform.ensures.obeyed opens devices (Some c.args.run.now.exp) within works);
      idle = idle_beside before inside c.args.self.now c.self.view_is opens works_inside c.args.rule.now.number q.moment q.promises q.ends c.args.run.now devices c.perform.result
          (run_idle c.self.inside.lab.state c.self.inside.swaps c.args.rule.now.number q.moment q.promises q.ends c.args.run.now (λ entry. space_in c.space_of-space.result entry) (task_of c.in-Ok.task) c.in-Ok.ensures.judged c.perform.result c.perform.ensures.told);
    }

pub returns-in-Ok-clause-part : goal.returns-in-Ok-clause-part
returns-in-Ok-clause-part g c =
    let q = c.args.queue.now in
    run_part c.self.inside.lab.state c.self.inside.swaps c.args.rule.now.number q.moment q.promises q.ends c.args.run.now (λ entry. space_in c.space_of-space.result entry) (task_of c.in-Ok.task) c.in-Ok.ensures.judged c.perform.result c.perform.ensures.told

pub returns-in-Err-Refused-clause-obeys : goal.returns-in-Err-Refused-clause-obeys
returns-in-Err-Refused-clause-obeys g c = λ opens devices within works.
    let q = c.args.queue.now in
    let before = g.P.Plant.seen c.args.plant.now in
    let inside = control c.self.inside.lab.state c.self.inside.journal c.self.inside.swaps in
    let old = c.args.self.now in
    let judged = rw (c.in-Err-Refused.field-0-is, c.space_of-space.ensures) at c.in-Err-Refused.ensures.judged in
    let works_inside = subst (λ (k : Control). WorksWith before k opens) (sym c.self.view_is) works in
    record {
      obeyed = refuses devices before (JudgedRun c.args.rule.now.number q.moment q.promises q.ends c.args.run.now (λ entry. has_space (start_of devices old opens).set entry) old.lab opens) old opens (Some c.args.run.now.exp) c.in-Err-Refused.reply works
          (run_refused before inside old c.self.view_is opens works_inside c.args.rule.now.number q.moment q.promises q.ends c.args.run.now devices c.in-Err-Refused.reply judged);
      idle = mild_idle c.in-Err-Refused.reply judged.1;
    }

pub returns-in-Err-Refused-clause-part : goal.returns-in-Err-Refused-clause-part
returns-in-Err-Refused-clause-part g c =
    let q = c.args.queue.now in
    refusal_part c.self.inside.lab.state c.self.inside.swaps c.args.rule.now.number q.moment q.promises q.ends c.args.run.now (λ entry. space_in c.space_of-space.result entry) c.in-Err-Refused.reply (rw c.in-Err-Refused.field-0-is at c.in-Err-Refused.ensures.judged)

pub returns-in-Err-Memory-clause-obeys : goal.returns-in-Err-Memory-clause-obeys
returns-in-Err-Memory-clause-obeys g c = λ opens devices within works.
    let q = c.args.queue.now in
    let old = c.args.self.now in record {
      obeyed = wanted devices (g.P.Plant.seen c.args.plant.now) (JudgedRun c.args.rule.now.number q.moment q.promises q.ends c.args.run.now (λ entry. has_space (start_of devices old opens).set entry) old.lab opens) old opens (Some c.args.run.now.exp) works;
      idle = tt;
    }
