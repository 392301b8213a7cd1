use Rattle.std.proofs.Common.{◌≡◌, ◌<◌, ℕ, [], length, get_or}
use Rattle.map_state.specs.Softs.{IsSoftRow}
use Rattle.map_state.proofs.softs.rows_of.Given as goal

abbrev pub invariant-loop-kind : goal.invariant-loop-kind
invariant-loop-kind l = record {
  one_each : length l.rows.items ≡ l.kind;
  each : (k : ℕ) → k < l.kind → IsSoftRow l.lab l.wiring (get_or l.ones k 0) (get_or l.rows.items k []);
}
