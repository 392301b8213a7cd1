use Rattle.std.proofs.Common.{◌≡◌, ◌<◌, ◌≤◌, ◌+◌, ◌*◌, ◌⊎◌, ℕ, length, take, get_or}
use Rattle.std.specs.List.{sum_by}
use Rattle.trunk_sums.specs.Counts.{share}
use Rattle.trunk_sums.specs.Crossed.{ups, downs}
use Rattle.trunk_sums.proofs.sums.Sums.cross.Given as goal

abbrev pub invariant-loop-crossing : goal.invariant-loop-crossing
invariant-loop-crossing l = record {
  room : length l.self.counts.items ≡ length l.initial.self.counts.items;
  one_each : length l.self.uses.items ≡ length l.initial.self.uses.items;
  row : (t : ℕ) → t < length l.initial.self.uses.items → get_or l.self.counts.items (64 * l.row.segment + t) 0 + downs t (take l.crossing-index l.crossed) ≡ get_or l.initial.self.counts.items (64 * l.row.segment + t) 0 + ups t (take l.crossing-index l.crossed);
  others : (k : ℕ) → (k < 64 * l.row.segment) ⊎ (64 * l.row.segment + 64 ≤ k) → get_or l.self.counts.items k 0 ≡ get_or l.initial.self.counts.items k 0;
  uses : (t : ℕ) → t < length l.initial.self.uses.items → get_or l.self.uses.items t 0 + share l.row.ends (get_or l.initial.self.counts.items (64 * l.row.segment + t) 0) l.row.kbps ≡ get_or l.initial.self.uses.items t 0 + share l.row.ends (get_or l.self.counts.items (64 * l.row.segment + t) 0) l.row.kbps;
  summed : l.self.total ≡ sum_by (λ (u : ℕ). u) l.self.uses.items;
  gains : l.self.gains.items ≡ l.initial.self.gains.items;
  bound : l.self.total ≤ l.initial.self.total + 256 * 1000000000 * l.crossing-index;
}
