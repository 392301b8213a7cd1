use Rattle.std.proofs.Common.{◌≡◌, map, take}
use Rattle.claims.proofs.claims.kbps_of.Given as goal

abbrev pub invariant-loop-trunk : goal.invariant-loop-trunk
invariant-loop-trunk l = l.kbps.items ≡ map (λ t. t.kbps) (take l.trunk-index l.trunks)
