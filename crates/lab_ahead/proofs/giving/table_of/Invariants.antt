use Rattle.std.proofs.Common.{◌≡◌, take}
use Rattle.phys_lab.specs.Tables.{rows}
use Rattle.lab_ahead.specs.SearchTrees.{table_of}
use Rattle.lab_ahead.proofs.giving.table_of.Given as goal

abbrev pub invariant-loop-need : goal.invariant-loop-need
invariant-loop-need l = rows l.rows.items ≡ table_of l.lab l.left (take l.need-index l.needs)
