use Rattle.std.proofs.Common.{◌≡◌, ◌<◌, ◌/◌, ◌%◌, [], ℕ, length, get_or}
use Rattle.trunk_sums.specs.Between.{AreBetween}
use Rattle.trunk_sums.proofs.table.table_of.Given as goal

abbrev pub invariant-loop-number : goal.invariant-loop-number
invariant-loop-number l = record {
  count : length l.lists.items ≡ l.number;
  each : (k : ℕ) → k < l.number → k / 64 < length l.lab.switches → k % 64 < length l.lab.switches → AreBetween l.lab (k / 64) (k % 64) (length l.lab.trunks) (get_or l.lists.items k []);
}
