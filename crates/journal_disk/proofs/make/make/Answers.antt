use Rattle.std.proofs.Common.{Bool, sym, subst}
use Rattle.journal_disk.specs.Opening.{InUse, Makes}
use Rattle.journal_disk.proofs.Opening.{make_joined}
use Rattle.journal_disk.proofs.make.make.Goals as goal

pub returns-in_ok-clear-clause-makes : goal.returns-in_ok-clear-clause-makes
returns-in_ok-clear-clause-makes g c =
    let told = (g.P.Plant.seen c.args.plant.now).told in
    subst (λ (b : Bool). Makes b InUse told (g.P.Plant.seen c.head.new.plant).told c.head.result) (sym c.if-is_short.true)
    (make_joined told (g.P.Plant.seen c.clear.new.plant).told (g.P.Plant.seen c.head.new.plant).told c.head.result c.in_ok-clear.ensures.ok c.head.ensures.makes)
