use Rattle.std.proofs.Common.{length, ap, arith}
use Rattle.ns_build.specs.Networks.{addressed}
use Rattle.ns_build.proofs.Changing.{map_over_at}
use Rattle.ns_build.proofs.changes.address_ends.Goals as goal

pub loop-end-preserved : goal.loop-end-preserved
loop-end-preserved c =
    rw c.address_end.ensures (map_over_at (addressed c.args.node c.args.address) c.args.ends.now.items c.loop-end.end-items c.loop-end.end-index _
    (omega (arith, ap length c.deref_mut-end-items.ensures.value)) (omega arith) c.loop-end.invariant)
