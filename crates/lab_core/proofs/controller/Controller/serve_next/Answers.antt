use Rattle.std.proofs.Common.{inl, inr, Some, refl}
use Rattle.std.proofs.lemmas.Result.{err_from_is_err_and}
use Rattle.lab_core.specs.LabSteps.{has_space}
use Rattle.lab_core.specs.Obey.{start_of}
use Rattle.lab_core.specs.Queues.{ObeysRun}
use Rattle.lab_core.specs.BatchList.{JudgedRun}
use Rattle.lab_core.proofs.Obey.{wanted}
use Rattle.lab_core.proofs.Served.{fault_ends}
use Rattle.lab_core.proofs.controller.Controller.serve_next.Goals as goal

pub returns-in_err-stuck : goal.returns-in_err-stuck
returns-in_err-stuck g c =
    let p = err_from_is_err_and c.from_residual.result c.from_residual.ensures.1 in
    let q = c.args.queue.now in
    let old = c.args.self.now in
    rw (p.1, p.2)
    (inl (λ opens devices within works. record {
      obeyed = wanted devices (g.P.Plant.seen c.args.plant.now) (JudgedRun c.args.rule.now.number q.moment q.promises q.ends c.args.run.now (λ entry. has_space (start_of devices old opens).set entry) old.lab opens) old opens (Some c.args.run.now.exp) works;
      idle = tt;
    }))

pub returns-in-Err : goal.returns-in-Err
returns-in-Err g c =
    fault_ends c.args.told.now c.args.run.now.exp (ObeysRun c.args.rule.now.number c.args.queue.now c.args.run.now (g.P.Plant.seen c.args.plant.now) (g.P.Plant.seen c.serve_run.new.plant) c.args.self.now c.serve_run.new.self) c.in-Err.fault c.in-Err.ensures.obeys

pub returns-in_err-next : goal.returns-in_err-next
returns-in_err-next g c =
    let p = err_from_is_err_and c.from_residual-in_err-next.result c.from_residual-in_err-next.ensures.1 in
    rw (p.1, p.2) (inr (c.in-Ok.reply, c.in_err-next.ensures.memory refl, c.in-Ok.ensures.part, c.in-Ok.ensures.obeys))

pub returns : goal.returns
returns g c = (c.in-Ok.reply, c.in-Ok.ensures.part, c.is_in.ensures, c.in_ok-next.ensures.told, c.in-Ok.ensures.obeys)
