use Rattle.std.proofs.Common.{◌≡◌, drop}
use Rattle.net_plan.specs.Addresses.{addresses_of}
use Rattle.net_plan.proofs.addresses.first_address.Given as goal

abbrev pub invariant-loop-end : goal.invariant-loop-end
invariant-loop-end l = addresses_of l.ends ≡ addresses_of (drop l.end-index l.ends)
