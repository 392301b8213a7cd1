use Rattle.std.proofs.Common.{◌<◌, length, get_or, ap, arith}
use Rattle.std.proofs.lemmas.List.Edits.{map_over_more}
use Rattle.plant_mem.specs.DiskPlans.{one_less}
use Rattle.plant_mem.proofs.Passes.{same_default}
use Rattle.plant_mem.proofs.stops.count_all.Goals as goal

pub loop-left-preserved : goal.loop-left-preserved
loop-left-preserved c =
    let i = c.loop-left.left-index in
    let items = c.loop-left.left-items in
    let plans = c.args.plans.now.items in
    let lt : i < length plans = omega (arith, c.loop-left-test.true, ap length c.deref_mut-left-items.ensures.value) in
    let inside : i < length items = omega (arith, c.loop-left-test.true, c.loop-left.auto.left-items) in
    rw c.count_one.ensures (map_over_more one_less plans items i (get_or items i 0) lt c.loop-left.invariant (same_default items i 0 (get_or items i 0) inside))
