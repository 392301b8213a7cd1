use Rattle.std.proofs.Common.{◌≡◌, ◌≤◌}
use Rattle.plant_mem.specs.Knows.{pipes_below}
use Rattle.plant_mem.specs.MemLab.{told_of}
use Rattle.plant.specs.Worlds.{world_of}
use Rattle.plant_mem.proofs.mem.MemLab.pipes_below.Given as goal

abbrev pub invariant-loop-pipe : goal.invariant-loop-pipe
invariant-loop-pipe l = record {
  counted : l.count ≡ pipes_below l.pipe ((world_of (told_of l.self).trace).node l.node).pipes;
  small : l.count ≤ l.pipe;
}
