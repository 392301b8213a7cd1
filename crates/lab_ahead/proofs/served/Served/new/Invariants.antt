use Rattle.std.proofs.Common.{◌≡◌, ◌<◌, ℕ, [], length, get_or}
use Rattle.phys_lab.specs.Tables.{rows}
use Rattle.lab_ahead.specs.Served.{IsRow, promise_at}
use Rattle.lab_ahead.proofs.served.Served.new.Given as goal

abbrev pub invariant-loop-promise : goal.invariant-loop-promise
invariant-loop-promise l = record {
  many : length (rows l.rows.items) ≡ l.promise-index;
  each : (k : ℕ) → k < l.promise-index → IsRow l.lab (promise_at l.promises k).kind (get_or (rows l.rows.items) k []);
}
