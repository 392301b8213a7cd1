-- Speeds that suffice for all ends of a virtual node, and speeds that all interfaces of a node have.
use Rattle.std.specs.Prelude.{◌≡◌, ◌<◌, ◌≤◌, ℕ, length, if◌then◌else◌, slice_index_or}
use Rattle.phys_lab.specs.declared.parts.Iface.{Iface}
use Rattle.phys_lab.specs.Labs.{Lab}
use Rattle.virt_topo.specs.declared.wiring.Wiring.{Wiring}
use Rattle.node_maps.specs.declared.ends.End.{End}
use Rattle.node_maps.specs.NodeMaps.{ends_of}
use Rattle.map_state.specs.declared.speeds.Speeds.{Speeds}

-- the speed that suffices for an end which shares no interface; more than any interface has where it may share one
abbrev pub wanted_by : End → ℕ
wanted_by e = if e.multiplexed then 18446744073709551615 else e.kbps

-- by virtual node a speed that suffices for each of its ends, and by node one that each of its interfaces has
pub record AreSpeeds (lab : Lab) (w : Wiring) (x : Speeds) : Type 0 where
  pub wanted_each : length x.wanted.items ≡ length w.nodes
  pub least_each : length x.least.items ≡ length lab.nodes
  pub wanted : (k : ℕ) (d : End) → k < length (ends_of w.segments)
      → wanted_by (slice_index_or (ends_of w.segments) k d) ≤ slice_index_or x.wanted.items (slice_index_or (ends_of w.segments) k d).node 0
  pub least : (k : ℕ) (d : Iface) → k < length lab.ifaces → slice_index_or x.least.items (slice_index_or lab.ifaces k d).node.0 0 ≤ (slice_index_or lab.ifaces k d).kbps
  pub small : (n : ℕ) → n < length lab.nodes → slice_index_or x.least.items n 0 < 18446744073709551615
