use Rattle.std.proofs.Common.{◌≡◌}
use Rattle.std.specs.List.{flat_map, range_with_len}
use Rattle.lab_seen.specs.Claimed.{hosted_nth}
use Rattle.lab_seen.proofs.placed.hosted_of.Given as goal

abbrev pub invariant-loop-number : goal.invariant-loop-number
invariant-loop-number l = l.hosted ≡ flat_map (hosted_nth l.lab l.wiring l.mapping l.name) (range_with_len 0 l.number)
