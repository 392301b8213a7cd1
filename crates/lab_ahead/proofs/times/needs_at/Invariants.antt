use Rattle.std.proofs.Common.{◌≡◌, take}
use Rattle.lab_ahead.specs.Moments.{needs_at}
use Rattle.lab_ahead.proofs.times.needs_at.Given as goal

abbrev pub invariant-loop-promise : goal.invariant-loop-promise
invariant-loop-promise l = l.needs ≡ needs_at (take l.promise-index l.promises) l.at
