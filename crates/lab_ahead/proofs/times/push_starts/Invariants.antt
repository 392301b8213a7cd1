use Rattle.std.proofs.Common.{◌≡◌, ◌++◌, take}
use Rattle.lab_ahead.specs.Moments.{starts_within}
use Rattle.lab_ahead.proofs.times.push_starts.Given as goal

abbrev pub invariant-loop-promise : goal.invariant-loop-promise
invariant-loop-promise l = l.moments.items ≡ l.fn.moments.items ++ starts_within l.now l.end (take l.promise-index l.promises)
