use Rattle.std.proofs.Common.{◌≡◌, ◌+◌, drop}
use Rattle.plant_mem.specs.RowTables.{index}
use Rattle.plant_mem.proofs.row_table.index_of.Given as goal

abbrev pub invariant-loop-at : goal.invariant-loop-at
invariant-loop-at l = index l.row l.rows ≡ l.at + index l.row (drop l.at l.rows)
