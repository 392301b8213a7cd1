use Rattle.std.proofs.Common.{◌≡◌, ◌++◌, map, take}
use Rattle.node_maps.proofs.suited.push_places.Given as goal

abbrev pub invariant-loop-kind : goal.invariant-loop-kind
invariant-loop-kind l = l.listed.items ≡ l.initial.listed.items ++ map (λ t. (l.id, t.0)) (take l.kind-index l.kind-items)
