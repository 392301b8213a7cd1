use Rattle.std.proofs.Common.{◌<◌, ℕ, get_or}
use Rattle.lab_ahead.specs.Moments.{FitsAt}
use Rattle.lab_ahead.proofs.waits.first_wait.Given as goal

abbrev pub invariant-loop-at : goal.invariant-loop-at
invariant-loop-at l = (k : ℕ) → k < l.at-index → FitsAt l.lab l.left l.promises (get_or l.at-items k 0)
