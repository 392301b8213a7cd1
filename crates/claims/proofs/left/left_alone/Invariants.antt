use Rattle.std.proofs.Common.{◌≡◌, ℕ, ◌+◌, ◌<◌, length, slice_index_or}
use Rattle.claims.proofs.left.left_alone.Given as goal

abbrev pub invariant-loop-trunk : goal.invariant-loop-trunk
invariant-loop-trunk l = record {
  len : length l.left ≡ l.trunk;
  left_so : (t : ℕ) → t < l.trunk → slice_index_or l.left t 0 + slice_index_or l.used t 0 ≡ slice_index_or l.kbps t 0;
}
