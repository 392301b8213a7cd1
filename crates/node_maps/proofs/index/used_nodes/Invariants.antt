use Rattle.std.proofs.Common.{◌≡◌, ◌<◌, ℕ, true, false, length, get_or}
use Rattle.lab_model.specs.Shapes.{Place}
use Rattle.node_maps.proofs.index.used_nodes.Given as goal

abbrev pub invariant-loop-place : goal.invariant-loop-place
invariant-loop-place l = record {
  one_each : length l.used.items ≡ l.nodes;
  used : (k : ℕ) (d : Place) → k < l.place-index → (get_or l.places k d).0.0 < l.nodes → get_or l.used.items (get_or l.places k d).0.0 false ≡ true;
}
