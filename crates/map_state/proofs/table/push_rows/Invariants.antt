use Rattle.std.proofs.Common.{◌≡◌, ◌++◌, replicate, length}
use Rattle.map_state.proofs.table.push_rows.Given as goal

abbrev pub invariant-loop-end : goal.invariant-loop-end
invariant-loop-end l = record {
  rows : l.rows.items ≡ l.initial.rows.items ++ replicate l._end (record { segment = l.number; ends = length l.segment.ends; kbps = l.segment.kbps });
}
