use Rattle.std.proofs.Common.{◌≡◌, ◌≤◌, ◌*◌, ℕ, take}
use Rattle.std.specs.List.{sum_by}
use Rattle.trunk_sums.proofs.start.sum_of.Given as goal

abbrev pub invariant-loop-used : goal.invariant-loop-used
invariant-loop-used l = record {
  sum : l.total ≡ sum_by (λ (u : ℕ). u) (take l.used-index l.uses);
  small : l.total ≤ l.used-index * (4096 * 1000000000);
}
