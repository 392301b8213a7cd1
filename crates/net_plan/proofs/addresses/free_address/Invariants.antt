use Rattle.std.proofs.Common.{◌≡◌, ◌+◌, ◌-◌, ◌*◌, map, not}
use Rattle.std.specs.List.{find, range_with_len}
use Rattle.net_plan.specs.Addresses.{hosts, uses}
use Rattle.net_plan.proofs.addresses.free_address.Given as goal

abbrev pub invariant-loop-host : goal.invariant-loop-host
invariant-loop-host l = find (λ a. not (uses l.used a)) (hosts l.subnet) ≡ find (λ a. not (uses l.used a)) (map (λ host. l.subnet * 256 + host) (range_with_len l.host (255 - l.host)))
