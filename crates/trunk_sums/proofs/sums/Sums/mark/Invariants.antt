use Rattle.std.proofs.Common.{◌<◌, ◌+◌, ◌*◌, ◌⊎◌, ℕ, take, get_or}
use Rattle.trunk_sums.specs.Crossed.{ups, downs}
use Rattle.trunk_sums.specs.Gains.{IsGain, no_gains}
use Rattle.trunk_sums.proofs.sums.Sums.mark.Given as goal

abbrev pub invariant-loop-crossing : goal.invariant-loop-crossing
invariant-loop-crossing l = (t : ℕ) → t < 64
    → (IsGain l.row.ends (get_or l.self.counts.items (64 * l.row.segment + t) 0) t (get_or l.self.gains.items l.row.segment no_gains))
    ⊎ (0 < ups t (take l.crossing-index l.crossed) + downs t (take l.crossing-index l.crossed))
    → IsGain l.row.ends (get_or l.self.counts.items (64 * l.row.segment + t) 0) t l.gains
