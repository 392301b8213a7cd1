use Rattle.std.proofs.Common.{◌≡◌, take}
use Rattle.phys_lab.specs.Tables.{rows}
use Rattle.lab_ahead.specs.Moments.{needs_at}
use Rattle.lab_ahead.specs.SearchTrees.{table_of}
use Rattle.lab_ahead.proofs.served.Served.rows_at.Given as goal

abbrev pub invariant-loop-number : goal.invariant-loop-number
invariant-loop-number l = rows l.table.items ≡ table_of l.self.lab.now l.nodes (needs_at (take l.number l.self.promises.now) l.at)
