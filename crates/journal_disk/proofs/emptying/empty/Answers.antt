use Rattle.std.proofs.Common.{Bool, sym, ap, ◌∙◌}
use Rattle.plant.specs.Told.{with_steps}
use Rattle.plant.proofs.Traces.{with_steps-nil}
use Rattle.journal_disk.specs.Compacting.{shutting}
use Rattle.journal_disk.proofs.emptying.empty.Goals as goal

pub returns-in_ok-shut-clause-leaves : goal.returns-in_ok-shut-clause-leaves
returns-in_ok-shut-clause-leaves g c text =
    let told = (g.P.Plant.seen c.args.plant.now).told in
    c.shorten.ensures.leaves told c.args.to_close text (c.in_ok-shut.ensures.ok ∙ ap (λ (b : Bool). with_steps told (shutting c.args.side b)) (sym c.if-to_close.true))

pub returns-else-to_close-clause-leaves : goal.returns-else-to_close-clause-leaves
returns-else-to_close-clause-leaves g c text =
    let told = (g.P.Plant.seen c.args.plant.now).told in
    c.shorten-else-to_close.ensures.leaves told c.args.to_close text (with_steps-nil told ∙ ap (λ (b : Bool). with_steps told (shutting c.args.side b)) (sym c.if-to_close.false))
