use Rattle.std.proofs.Common.{◌≡◌, drop}
use Rattle.std.specs.Prelude.{slice_get}
use Rattle.plant_mem.specs.RowTables.{entries_on}
use Rattle.plant_mem.proofs.row_table.nth_on.Given as goal

abbrev pub invariant-loop-row : goal.invariant-loop-row
invariant-loop-row l = slice_get (entries_on l.switch l.rows) l.nth ≡ slice_get (entries_on l.switch (drop l.row-index l.rows)) l.left
