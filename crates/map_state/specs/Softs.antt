-- The soft weights of virtual nodes on nodes.
use Rattle.std.specs.Prelude.{◌≡◌, ◌<◌, ℕ, List, [], length, slice_index_or}
use Rattle.phys_lab.specs.Labs.{Lab}
use Rattle.virt_topo.specs.declared.wiring.Wiring.{Wiring}
use Rattle.cost_rule.specs.Cost.{soft_at}
use Rattle.map_state.specs.declared.softs.Softs.{Softs}

-- by node what is soft of virtual node v there
pub record IsSoftRow (lab : Lab) (w : Wiring) (v : ℕ) (row : List ℕ) : Type 0 where
  pub one_each : length row ≡ length lab.nodes
  pub each : (n : ℕ) → n < length lab.nodes → slice_index_or row n 0 ≡ soft_at lab w v (record { 0 = n })

-- by virtual node its kind, and by kind the row of each virtual node of it
pub record AreSofts (lab : Lab) (w : Wiring) (x : Softs) : Type 0 where
  pub one_each : length x.kinds.items ≡ length w.nodes
  pub within : (v : ℕ) → v < length w.nodes → slice_index_or x.kinds.items v 0 < length x.rows.items
  pub rows : (v : ℕ) → v < length w.nodes → IsSoftRow lab w v (slice_index_or x.rows.items (slice_index_or x.kinds.items v 0) [])
