use Rattle.std.proofs.Common.{◌≡◌, ◌<◌, ℕ, length, get_or}
use Rattle.trunk_sums.specs.Summed.{used}
use Rattle.trunk_sums.proofs.start.uses_of.Given as goal

abbrev pub invariant-loop-trunk : goal.invariant-loop-trunk
invariant-loop-trunk l = record {
  one_each : length l.uses.items ≡ l.trunk;
  each : (t : ℕ) → t < l.trunk → get_or l.uses.items t 0 ≡ used l.lab l.wiring l.mapping.plugs t;
}
