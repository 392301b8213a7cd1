use Rattle.std.proofs.Common.{◌≡◌, ◌<◌, ℕ, [], length, get_or}
use Rattle.map_anneal.specs.Searches.{sought_of}
use Rattle.map_anneal.specs.RuledOut.{IsRow}
use Rattle.map_anneal.proofs.known.fresh_rows.Given as goal

abbrev pub invariant-loop-virt : goal.invariant-loop-virt
invariant-loop-virt g l = record {
  count : length l.rows.items ≡ l.virt;
  each : (v : ℕ) → v < l.virt → IsRow (sought_of l.search l._rule.number) l._start v (get_or l.rows.items v []);
}
