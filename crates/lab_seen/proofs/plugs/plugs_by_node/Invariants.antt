use Rattle.std.proofs.Common.{◌≡◌, ◌<◌, ℕ, [], length, get_or, take}
use Rattle.lab_seen.proofs.Plugged.{plugs_at}
use Rattle.lab_seen.proofs.plugs.plugs_by_node.Given as goal

abbrev pub invariant-loop-iface : goal.invariant-loop-iface
invariant-loop-iface l = record {
  nodes : length l.lists.items ≡ length l.lab.nodes;
  each : (n : ℕ) → n < length l.lab.nodes → get_or l.lists.items n [] ≡ plugs_at (take l.iface-index l.lab.ifaces) n;
}
