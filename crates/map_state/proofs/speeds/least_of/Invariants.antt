use Rattle.std.proofs.Common.{◌≡◌, ◌<◌, ◌≤◌, ℕ, length, get_or}
use Rattle.phys_lab.specs.declared.parts.Iface.{Iface}
use Rattle.map_state.proofs.speeds.least_of.Given as goal

abbrev pub invariant-loop-iface : goal.invariant-loop-iface
invariant-loop-iface l = record {
  one_each : length l.least.items ≡ length l.lab.nodes;
  each : (k : ℕ) (d : Iface) → k < l.iface-index → get_or l.least.items (get_or l.lab.ifaces k d).node.0 0 ≤ (get_or l.lab.ifaces k d).kbps;
  small : (n : ℕ) → n < length l.lab.nodes → get_or l.least.items n 0 < 18446744073709551615;
}
