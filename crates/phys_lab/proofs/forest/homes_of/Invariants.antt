use Rattle.std.proofs.Common.{◌≡◌, ◌≤◌, length, map, take}
use Rattle.std.specs.Prelude.{vec_len, vec_capacity}
use Rattle.phys_lab.proofs.forest.homes_of.Given as goal

abbrev pub invariant-loop-iface : goal.invariant-loop-iface
invariant-loop-iface l = record {
  is : l.homes.items ≡ map (λ iface. iface.switch) (take l.iface-index l.ifaces);
  len : vec_len l.homes ≡ l.iface-index;
  room : length l.ifaces ≤ vec_capacity l.homes;
}
