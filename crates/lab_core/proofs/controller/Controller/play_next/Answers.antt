use Rattle.std.proofs.Common.{inl, inr, Some}
use Rattle.std.proofs.lemmas.Result.{err_from_is_err_and}
use Rattle.lab_core.specs.InTurn.{ObeysEvent}
use Rattle.lab_core.specs.PlayList.{JudgedEvent}
use Rattle.lab_core.proofs.InTurn.{fault_ends, told_ends}
use Rattle.lab_core.proofs.Obey.{wanted}
use Rattle.lab_core.proofs.controller.Controller.play_next.Goals as goal

pub returns-in_err-stuck : goal.returns-in_err-stuck
returns-in_err-stuck g c =
    let p = err_from_is_err_and c.from_residual.result c.from_residual.ensures.1 in
    rw (p.1, p.2)
    (inl (λ opens devices within works. wanted devices (g.P.Plant.seen c.args.plant.now) (JudgedEvent c.args.exp c.args.text.now c.args.event.now c.args.self.now.lab opens) c.args.self.now opens (Some c.args.exp) works))

pub returns-in-Err : goal.returns-in-Err
returns-in-Err g c =
    fault_ends c.args.exp c.args.played (ObeysEvent c.args.exp c.args.text.now c.args.event.now (g.P.Plant.seen c.args.plant.now) (g.P.Plant.seen c.play_event.new.plant) c.args.self.now c.play_event.new.self) c.in-Err.fault c.in-Err.ensures.obeys

pub returns-in_err-whole : goal.returns-in_err-whole
returns-in_err-whole g c =
    let p = err_from_is_err_and c.from_residual-in_err-whole.result c.from_residual-in_err-whole.ensures.1 in
    rw (p.1, p.2) (inr (c.in-Ok.reply, c.in_err-whole.ensures, c.in-Ok.ensures.part, c.in-Ok.ensures.obeys))

pub returns : goal.returns
returns g c =
    told_ends c.args.exp c.args.played (ObeysEvent c.args.exp c.args.text.now c.args.event.now (g.P.Plant.seen c.args.plant.now) (g.P.Plant.seen c.play_event.new.plant) c.args.self.now c.play_event.new.self) c.in-Ok.reply c.in-Ok.ensures.part c.in-Ok.ensures.obeys
    c.in_ok-whole.whole c.in_ok-whole.ensures
