use Rattle.std.proofs.Common.{◌≡◌, map, ◌++◌, take, drop}
use Rattle.plant_mem.specs.Plans.{counted}
use Rattle.plant_mem.proofs.plans.count_down.Given as goal

abbrev pub invariant-loop-plan : goal.invariant-loop-plan
invariant-loop-plan l = l.plan-items ≡ map (counted l.op l.applied) (take l.plan-index l.fn.plans.items) ++ drop l.plan-index l.fn.plans.items
