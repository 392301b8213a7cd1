use Rattle.std.proofs.Common.{◌≡◌, ℕ, true, false, [], length, get_or, take}
use Rattle.node_maps.specs.Indexed.{ifaces_of}
use Rattle.node_maps.proofs.index.lists_of.Given as goal

abbrev pub invariant-loop-iface : goal.invariant-loop-iface
invariant-loop-iface l = record {
  nodes : length l.lists.items ≡ length l.lab.nodes;
  each : (node : ℕ) → get_or l.used node false ≡ true → get_or l.lists.items node [] ≡ ifaces_of 0 (take l.iface l.ifaces) node;
}
