use Rattle.std.proofs.Common.{◌≡◌, ◌<◌, ◌==◌, [], ℕ, length, get_or}
use Rattle.node_maps.specs.NodeMaps.{ends_of}
use Rattle.map_state.specs.Nodes.{numbers_of}
use Rattle.map_state.proofs.table.own_of.Given as goal

abbrev pub invariant-loop-virt : goal.invariant-loop-virt
invariant-loop-virt l = record {
  one_each : length l.own.items ≡ l.virt;
  each : (v : ℕ) → v < l.virt → get_or l.own.items v [] ≡ numbers_of 0 (λ e. e.node == v) (ends_of l.wiring.segments);
}
