use Rattle.std.proofs.Common.{◌≡◌, ◌+◌, ◌<◌, ◌≤◌, ℕ, get_or}
use Rattle.trunk_sums.specs.declared.made.Change.{Change}
use Rattle.trunk_sums.proofs.foreseen.are_rising.Given as goal

abbrev pub invariant-loop-change : goal.invariant-loop-change
invariant-loop-change l = record {
  below : (j : ℕ) (d : Change) → j < l.change-index → (get_or l.changes j d).row.segment < l.from;
  rising : (j k : ℕ) (d e : Change) → j < k → k < l.change-index → (get_or l.changes j d).row.segment < (get_or l.changes k e).row.segment;
  small : l.from ≤ 65536;
  none : l.change-index ≡ 0 → l.from ≡ 0;
  last : (j : ℕ) (d : Change) → j + 1 ≡ l.change-index → l.from ≡ (get_or l.changes j d).row.segment + 1;
}
