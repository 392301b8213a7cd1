use Rattle.std.proofs.Common.{◌≡◌, ◌≢◌, ◌<◌, ◌≤◌, ℕ, true, false, length, get_or}
use Rattle.virt_topo.specs.declared.limits.TheConstants.{MAX_SEGMENTS}
use Rattle.trunk_sums.specs.declared.made.Change.{Change}
use Rattle.trunk_sums.specs.Foreseen.{AreApart}
use Rattle.trunk_sums.proofs.foreseen.are_seen_once.Given as goal

abbrev pub invariant-loop-change : goal.invariant-loop-change
invariant-loop-change l = record {
  count : length l.seen ≡ MAX_SEGMENTS;
  seen : (j : ℕ) (d : Change) → j < l.change-index → get_or l.seen (get_or l.changes j d).row.segment false ≡ true;
  apart : (j k : ℕ) (d e : Change) → j < k → k < l.change-index → (get_or l.changes j d).row.segment ≢ (get_or l.changes k e).row.segment;
  fresh : AreApart l.changes → (k : ℕ) (e : Change) → l.change-index ≤ k → k < length l.changes → get_or l.seen (get_or l.changes k e).row.segment false ≡ false;
}
