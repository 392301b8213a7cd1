use Rattle.std.proofs.Common.{◌≡◌, ◌+◌, drop}
use Rattle.plant_mem.specs.RowTables.{index_for}
use Rattle.plant_mem.proofs.row_table.index_for.Given as goal

abbrev pub invariant-loop-at : goal.invariant-loop-at
invariant-loop-at l = index_for l.row l.rows ≡ l.at + index_for l.row (drop l.at l.rows)
