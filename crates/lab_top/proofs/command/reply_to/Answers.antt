use Rattle.std.proofs.Common.{refl, sym}
use Rattle.lab_top.proofs.Drilling.{ends_drill}
use Rattle.lab_top.proofs.command.reply_to.Goals as goal

pub returns-in-Some : goal.returns-in-Some
returns-in-Some g c =
    let p = c.plan.ensures in
    λ from goes. ends_drill _ c.args.command.now c.in-Some.drill (sym c.in-Some.ensures) _ _ c.plan.result p.plans p.faults p.stopped refl from goes (g.met.P.Plant.reads_possible c.args.plant.now)
