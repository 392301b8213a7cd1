use Rattle.std.proofs.Common.{◌≡◌, ◌++◌, map, take}
use Rattle.plain_model.proofs.claims.push_tags.Given as goal

abbrev pub invariant-loop-tag : goal.invariant-loop-tag
invariant-loop-tag l = l.listed.items ≡ l.initial.listed.items ++ map (λ tag. tag.0) (take l.tag-index l.tags)
