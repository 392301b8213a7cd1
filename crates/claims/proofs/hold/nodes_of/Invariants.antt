use Rattle.std.proofs.Common.{◌≡◌, map, take}
use Rattle.claims.proofs.hold.nodes_of.Given as goal

abbrev pub invariant-loop-place : goal.invariant-loop-place
invariant-loop-place l = l.nodes ≡ map (λ p. p.0) (take l.place-index l.mapping.places)
