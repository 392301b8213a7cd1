use Rattle.std.proofs.Common.{◌≡◌, take}
use Rattle.std.specs.List.{flat_map}
use Rattle.lab_model.specs.Claims.{claimed_tags}
use Rattle.plain_model.proofs.claims.claimed_tags.Given as goal

abbrev pub invariant-loop-experiment : goal.invariant-loop-experiment
invariant-loop-experiment l = l.listed.items ≡ flat_map claimed_tags (take l.experiment-index l.experiments)
