use Rattle.std.proofs.Common.{◌≡◌, map, ◌++◌, take, drop}
use Rattle.plant_mem.specs.DiskPlans.{one_less}
use Rattle.plant_mem.proofs.stops.count_all.Given as goal

abbrev pub invariant-loop-left : goal.invariant-loop-left
invariant-loop-left l = l.left-items ≡ map one_less (take l.left-index l.fn.plans.items) ++ drop l.left-index l.fn.plans.items
