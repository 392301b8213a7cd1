use Rattle.std.proofs.Common.{◌≡◌, length}
use Rattle.lab_layout.proofs.trunks.bare_trunks.Given as goal

abbrev pub invariant-loop-number : goal.invariant-loop-number
invariant-loop-number l = record {
  lines : length l.lines.items ≡ l._number;
  labels : length l.labels.items ≡ l._number;
}
