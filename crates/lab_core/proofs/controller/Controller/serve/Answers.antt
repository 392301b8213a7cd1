use Rattle.std.proofs.Common.{List, Ok, Err, subst}
use Rattle.lab_ahead.specs.declared.batch.Batch.{Batch}
use Rattle.lab_ahead.specs.declared.batch.Run.{Run}
use Rattle.lab_core.specs.Controller.{Control}
use Rattle.lab_core.specs.Queues.{ObeysRuns, first_place}
use Rattle.lab_judge.specs.Serving.{JudgedBatch, first_run}
use Rattle.lab_core.proofs.Served.{batch_listed, batch_told, batch_wanted}
use Rattle.lab_core.proofs.controller.Controller.serve.Goals as goal

pub returns-in-Ok : goal.returns-in-Ok
returns-in-Ok g c = λ lines opens devices within works.
    let before = g.P.Plant.seen c.args.plant.now in
    let batch : Batch = c.in-Ok.batch in
    let judged = subst (λ (k : Control). JudgedBatch k.lab c.args.text.now (Ok (first_run batch))) c.self.view_is c.in-Ok.ensures.judged in
    batch_listed c.args.rule.now.number c.args.moment lines c.args.text.now devices opens before (g.P.Plant.seen c.serve_runs.new.plant) c.args.self.now c.serve_runs.new.self batch judged c.serve_runs.result
    (subst (λ (l : List Run). ObeysRuns c.args.rule.now.number c.args.moment (first_place batch.promises l) devices before (g.P.Plant.seen c.serve_runs.new.plant) c.args.self.now c.serve_runs.new.self opens c.serve_runs.result) c.as_slice.ensures
    (c.serve_runs.ensures opens devices within works))

pub returns-in-Err-Refused : goal.returns-in-Err-Refused
returns-in-Err-Refused g c = λ lines opens devices within works.
    let judged = rw c.in-Err-Refused.field-0-is at c.in-Err-Refused.ensures.judged in
    batch_told c.args.rule.now.number c.args.moment lines c.args.text.now devices opens (g.P.Plant.seen c.args.plant.now) c.args.self.now works c.in-Err-Refused.reply
    (subst (λ (k : Control). JudgedBatch k.lab c.args.text.now (Err c.in-Err-Refused.reply)) c.self.view_is judged.0, judged.1)

pub returns-in-Err-Memory : goal.returns-in-Err-Memory
returns-in-Err-Memory g c = λ lines opens devices within works. batch_wanted c.args.rule.now.number c.args.moment lines c.args.text.now devices opens (g.P.Plant.seen c.args.plant.now) c.args.self.now works
