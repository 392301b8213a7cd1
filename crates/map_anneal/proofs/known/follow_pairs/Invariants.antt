use Rattle.std.proofs.Common.{◌≡◌, ◌<◌, ◌≤◌, ℕ, [], length, get_or}
use Rattle.map_anneal.specs.Searches.{sought_of}
use Rattle.map_anneal.specs.RuledOut.{IsPairs}
use Rattle.map_anneal.proofs.known.follow_pairs.Given as goal

abbrev pub invariant-loop-virt : goal.invariant-loop-virt
invariant-loop-virt g l = record {
  count : length l.pairs.items ≡ length l.initial.pairs.items;
  done : (v : ℕ) → v < l.virt → IsPairs (sought_of l._search l._rule.number) l._next v (get_or l.pairs.items v []);
  later : (v : ℕ) → l.virt ≤ v → get_or l.pairs.items v [] ≡ get_or l.initial.pairs.items v [];
}
