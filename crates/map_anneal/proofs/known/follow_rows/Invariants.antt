use Rattle.std.proofs.Common.{◌≡◌, ◌<◌, ◌≤◌, ℕ, [], length, get_or}
use Rattle.map_anneal.specs.Searches.{sought_of}
use Rattle.map_anneal.specs.RuledOut.{IsRow}
use Rattle.map_anneal.proofs.known.follow_rows.Given as goal

abbrev pub invariant-loop-virt : goal.invariant-loop-virt
invariant-loop-virt g l = record {
  count : length l.rows.items ≡ length l.initial.rows.items;
  done : (v : ℕ) → v < l.virt → IsRow (sought_of l._search l._rule.number) l._next v (get_or l.rows.items v []);
  later : (v : ℕ) → l.virt ≤ v → get_or l.rows.items v [] ≡ get_or l.initial.rows.items v [];
}
