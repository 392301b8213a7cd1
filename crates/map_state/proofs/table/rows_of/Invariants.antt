use Rattle.std.proofs.Common.{◌≡◌, ◌<◌, ℕ, length, get_or}
use Rattle.trunk_sums.specs.Summed.{IsRow, first_end}
use Rattle.map_state.specs.Nodes.{no_row}
use Rattle.map_state.proofs.table.rows_of.Given as goal

abbrev pub invariant-loop-segment : goal.invariant-loop-segment
invariant-loop-segment l = record {
  number : l.number ≡ l.segment-index;
  count : length l.rows.items ≡ first_end l.wiring.segments l.segment-index;
  each : (k : ℕ) → k < length l.rows.items → IsRow l.wiring k (get_or l.rows.items k no_row);
}
