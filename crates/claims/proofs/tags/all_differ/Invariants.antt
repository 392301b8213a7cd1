use Rattle.std.proofs.Common.{◌≡◌, map, length}
use Rattle.lab_model.specs.Beside.{all_differ}
use Rattle.claims.proofs.tags.all_differ.Given as goal

abbrev pub invariant-loop-first : goal.invariant-loop-first
invariant-loop-first l = all_differ (map (λ tag. tag.0) l.fn.tags) ≡ all_differ (map (λ tag. tag.0) l.rest)

abbrev pub decreases-loop-first : goal.decreases-loop-first
decreases-loop-first l = length l.rest
