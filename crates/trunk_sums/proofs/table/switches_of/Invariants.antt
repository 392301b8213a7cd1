use Rattle.std.proofs.Common.{◌≡◌, map, take}
use Rattle.trunk_sums.proofs.table.switches_of.Given as goal

abbrev pub invariant-loop-iface : goal.invariant-loop-iface
invariant-loop-iface l = l.switches.items ≡ map (λ i. i.switch) (take l.iface-index l.iface-items)
