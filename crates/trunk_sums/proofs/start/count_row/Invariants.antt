use Rattle.std.proofs.Common.{◌≡◌, ◌<◌, ◌+◌, ℕ, length, get_or}
use Rattle.virt_topo.specs.Cables.{plugs_on}
use Rattle.trunk_sums.specs.Crossed.{side_of}
use Rattle.trunk_sums.proofs.start.count_row.Given as goal

abbrev pub invariant-loop-trunk : goal.invariant-loop-trunk
invariant-loop-trunk l = record {
  room : length l.counts.items ≡ length l.initial.counts.items;
  row : (t : ℕ) → t < l.trunk → get_or l.counts.items (l.place + t) 0 ≡ plugs_on (side_of l.lab t) l.plugs;
  earlier : (k : ℕ) → k < l.place → get_or l.counts.items k 0 ≡ get_or l.initial.counts.items k 0;
}
