use Rattle.std.proofs.Common.{◌≡◌, ◌+◌}
use Rattle.std.specs.Prelude.{length}
use Rattle.plant.specs.Worlds.{world_of}
use Rattle.plant_mem.specs.MemLab.{told_of}
use Rattle.plant_mem.specs.Readings.{numbers_below}
use Rattle.plant_mem.proofs.mem.MemLab.nth_pipe.Given as goal

abbrev pub invariant-loop-number : goal.invariant-loop-number
invariant-loop-number l = l.nth ≡ l.left + length (numbers_below l.number ((world_of (told_of l.self).trace).node l.node).pipes)
