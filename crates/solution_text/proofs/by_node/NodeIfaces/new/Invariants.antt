use Rattle.std.proofs.Common.{◌≡◌, ◌+◌, ◌<◌, ◌≤◌, ℕ, length, get_or}
use Rattle.lab_model.specs.Uses.{no_iface}
use Rattle.solution_text.specs.Names.{next_on}
use Rattle.solution_text.proofs.by_node.NodeIfaces.new.Given as goal

abbrev pub invariant-loop-number : goal.invariant-loop-number
invariant-loop-number l = record {
  nodes : length l.first.items ≡ length l.lab.nodes;
  ifaces : length l.next.items ≡ length l.ifaces;
  first : (node : ℕ) → node < length l.first.items → get_or l.first.items node 0 ≡ next_on l.ifaces node l.number;
  next : (i : ℕ) → l.number ≤ i → i < length l.ifaces → get_or l.next.items i 0 ≡ next_on l.ifaces (get_or l.ifaces i no_iface).node.0 (i + 1);
}
