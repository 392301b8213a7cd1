use Rattle.std.proofs.Common.{◌≡◌, map, take}
use Rattle.map_state.proofs.hosting.hosts_of.Given as goal

abbrev pub invariant-loop-place : goal.invariant-loop-place
invariant-loop-place l = record {
  hosts : l.hosts.items ≡ map (λ p. p.0.0) (take l.place-index l.mapping.places);
}
