use Rattle.std.proofs.Common.{◌≡◌, ◌<◌, ℕ, length, get_or}
use Rattle.trunk_sums.specs.Between.{AreSides}
use Rattle.trunk_sums.proofs.table.sides_of.Given as goal

abbrev pub invariant-loop-number : goal.invariant-loop-number
invariant-loop-number l = record {
  count : length l.sides.items ≡ l.number;
  each : (z : ℕ) → z < l.number → AreSides l.lab z (length l.lab.trunks) (get_or l.sides.items z 0);
}
