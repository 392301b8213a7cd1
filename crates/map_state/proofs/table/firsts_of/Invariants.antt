use Rattle.std.proofs.Common.{◌≡◌, ◌<◌, ℕ, length, get_or}
use Rattle.trunk_sums.specs.Summed.{first_end}
use Rattle.map_state.proofs.table.firsts_of.Given as goal

abbrev pub invariant-loop-segment : goal.invariant-loop-segment
invariant-loop-segment l = record {
  count : length l.firsts.items ≡ l.segment-index;
  next : l.next ≡ first_end l.wiring.segments l.segment-index;
  each : (s : ℕ) → s < l.segment-index → get_or l.firsts.items s 0 ≡ first_end l.wiring.segments s;
}
