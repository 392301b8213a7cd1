use Rattle.std.proofs.Common.{◌≡◌, take}
use Rattle.lab_ahead.specs.Moments.{left_at}
use Rattle.lab_ahead.proofs.times.left_at.Given as goal

abbrev pub invariant-loop-entry : goal.invariant-loop-entry
invariant-loop-entry l = l.nodes ≡ left_at (take l.entry-index l.left) l.at
