use Rattle.std.proofs.Common.{◌<◌, length, ap, arith}
use Rattle.std.proofs.lemmas.List.Edits.{map_over_more}
use Rattle.plant_mem.specs.Readings.{reading_counted}
use Rattle.plant_mem.proofs.plans.count_readings.Goals as goal

pub loop-plan-preserved : goal.loop-plan-preserved
loop-plan-preserved c =
    let i = c.loop-plan.plan-index in
    let f = reading_counted c.args.device.now in
    let plans = c.args.plans.now.items in
    let was = c.loop-plan.invariant in
    let lt : i < length plans = omega (arith, c.loop-plan-test.true, ap length c.deref_mut-plan-items.ensures.value) in
    rw (c.count_reading.ensures, ← c.plan-item.is) (map_over_more f plans c.loop-plan.plan-items i c.plan-item.result lt was c.plan-item.is)
