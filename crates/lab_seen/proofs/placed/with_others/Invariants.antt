use Rattle.std.proofs.Common.{◌≡◌, ◌++◌, not, take}
use Rattle.std.specs.List.{filter}
use Rattle.lab_seen.specs.Claimed.{is_among}
use Rattle.lab_seen.proofs.placed.with_others.Given as goal

abbrev pub invariant-loop-other : goal.invariant-loop-other
invariant-loop-other l = l.all ≡ l.names ++ filter (λ name. not (is_among l.names name)) (take l.other-index l.others)
