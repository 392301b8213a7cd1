use Rattle.std.proofs.Common.{◌≡◌, ◌<◌, ◌≤◌, ℕ, length, get_or}
use Rattle.node_maps.specs.declared.ends.End.{End}
use Rattle.map_state.specs.Speeds.{wanted_by}
use Rattle.map_state.proofs.speeds.wanted_of.Given as goal

abbrev pub invariant-loop-end : goal.invariant-loop-end
invariant-loop-end l = record {
  one_each : length l.wanted.items ≡ l.virts;
  each : (k : ℕ) (d : End) → k < l.end-index → wanted_by (get_or l.ends k d) ≤ get_or l.wanted.items (get_or l.ends k d).node 0;
}
