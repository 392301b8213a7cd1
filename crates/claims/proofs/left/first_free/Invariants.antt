use Rattle.std.proofs.Common.{◌≡◌, map, take}
use Rattle.claims.specs.Counts.{free_from}
use Rattle.claims.proofs.left.first_free.Given as goal

abbrev pub invariant-loop-at : goal.invariant-loop-at
invariant-loop-at l = map (λ tag. tag.0) l.tags ≡ take l.count (free_from l.first (take l.at l.owners))
