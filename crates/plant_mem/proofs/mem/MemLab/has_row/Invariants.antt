use Rattle.std.proofs.Common.{◌≡◌, take}
use Rattle.plant_mem.specs.MemLab.{bytes_of}
use Rattle.plant_mem.specs.RowTables.{row_of}
use Rattle.plant_mem.specs.Steps.{trace_of}
use Rattle.plant.specs.Worlds.{world_of}
use Rattle.plant_mem.proofs.mem.MemLab.has_row.Given as goal

abbrev pub invariant-loop-step : goal.invariant-loop-step
invariant-loop-step l = l.there ≡ (world_of (trace_of (bytes_of l.self) (take l.step-index l.step-items))).rows (row_of l.row)
