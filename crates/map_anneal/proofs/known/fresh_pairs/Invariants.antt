use Rattle.std.proofs.Common.{◌≡◌, ◌<◌, ℕ, [], length, get_or}
use Rattle.map_anneal.specs.Searches.{sought_of}
use Rattle.map_anneal.specs.RuledOut.{IsPairs}
use Rattle.map_anneal.proofs.known.fresh_pairs.Given as goal

abbrev pub invariant-loop-virt : goal.invariant-loop-virt
invariant-loop-virt g l = record {
  count : length l.pairs.items ≡ l._virt;
  each : (v : ℕ) → v < l._virt → IsPairs (sought_of l.search l._rule.number) l._start v (get_or l.pairs.items v []);
}
