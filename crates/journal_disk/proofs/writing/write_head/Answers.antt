use Rattle.std.proofs.Common.{List, ℕ, subst}
use Rattle.plant.specs.DiskCalls.{WriteSteps}
use Rattle.journal_disk.proofs.writing.write_head.Goals as goal

pub returns-clause-trace : goal.returns-clause-trace
returns-clause-trace g c =
    let t = c.write.ensures.trace in
    (t.0, t.1, subst (λ (l : List ℕ). WriteSteps c.args.side 1 l (g.P.Plant.seen c.args.plant.now).stopped c.write.result t.0) c.put_head.ensures t.2)
