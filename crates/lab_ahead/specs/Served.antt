-- Which nodes of a lab have the types of promises.
use Rattle.std.specs.Prelude.{◌≡◌, ◌<◌, ℕ, Bool, false, List, [], length, slice_index_or}
use Rattle.phys_lab.specs.Labs.{Lab}
use Rattle.phys_lab.specs.Tables.{rows}
use Rattle.lab_ahead.specs.declared.batch.Promise.{Promise}
use Rattle.lab_ahead.specs.declared.served.Served.{Served}
use Rattle.lab_ahead.specs.Givings.{has_type}

abbrev pub promise_at : List Promise → ℕ → Promise
promise_at promises k = slice_index_or promises k (record { kind = []; count = 0; from = 0; to = 0 })

-- by node of the lab, whether it has that type
pub record IsRow (lab : Lab) (kind : List ℕ) (row : List Bool) : Type 0 where
  pub wide : length row ≡ length lab.nodes
  pub is : (n : ℕ) → n < length lab.nodes → slice_index_or row n false ≡ has_type lab kind (record { 0 = n })

-- by promise, which nodes of the lab have its type
pub record KnowsTypes (served : Served) : Type 0 where
  pub many : length (rows served.rows.items) ≡ length served.promises.now
  pub each : (k : ℕ) → k < length served.promises.now → IsRow served.lab.now (promise_at served.promises.now k).kind (slice_index_or (rows served.rows.items) k [])
