use Rattle.std.proofs.Common.{◌≡◌, map, ◌++◌, take, drop}
use Rattle.plant_mem.specs.Readings.{reading_counted}
use Rattle.plant_mem.proofs.plans.count_readings.Given as goal

abbrev pub invariant-loop-plan : goal.invariant-loop-plan
invariant-loop-plan l = l.plan-items ≡ map (reading_counted l.device) (take l.plan-index l.fn.plans.items) ++ drop l.plan-index l.fn.plans.items
