use Rattle.std.proofs.Common.{◌≡◌, map, take}
use Rattle.claims.specs.Counts.{is_free_to}
use Rattle.claims.proofs.left.free_nodes.Given as goal

abbrev pub invariant-loop-owner : goal.invariant-loop-owner
invariant-loop-owner l = l.free ≡ map (is_free_to l.exp) (take l.owner-index l.owners)
