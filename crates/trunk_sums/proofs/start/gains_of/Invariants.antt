use Rattle.std.proofs.Common.{◌≡◌, ◌<◌, ◌+◌, ◌*◌, ℕ, length, get_or}
use Rattle.trunk_sums.specs.Gains.{IsGain, no_gains}
use Rattle.trunk_sums.specs.Summed.{no_segment}
use Rattle.trunk_sums.proofs.start.gains_of.Given as goal

abbrev pub invariant-loop-number : goal.invariant-loop-number
invariant-loop-number l = record {
  count : length l.gains.items ≡ l.number;
  each : (s t : ℕ) → s < l.number → t < length l.lab.trunks → IsGain (length (get_or l.wiring.segments s no_segment).ends) (get_or l.counts (64 * s + t) 0) t (get_or l.gains.items s no_gains);
}
