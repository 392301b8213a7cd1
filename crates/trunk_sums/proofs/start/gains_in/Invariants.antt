use Rattle.std.proofs.Common.{◌<◌, ◌+◌, ◌*◌, ℕ, length, get_or}
use Rattle.trunk_sums.specs.Gains.{IsGain}
use Rattle.trunk_sums.proofs.start.gains_in.Given as goal

abbrev pub invariant-loop-trunk : goal.invariant-loop-trunk
invariant-loop-trunk l = (t : ℕ) → t < l.trunk → IsGain (length l.segment.ends) (get_or l.counts (64 * l.number + t) 0) t l.gains
