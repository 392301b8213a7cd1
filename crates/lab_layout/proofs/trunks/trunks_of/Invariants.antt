use Rattle.std.proofs.Common.{◌≡◌, length}
use Rattle.lab_layout.proofs.trunks.trunks_of.Given as goal

abbrev pub invariant-loop-spot : goal.invariant-loop-spot
invariant-loop-spot l = record {
  lines : length l.trunks.lines.items ≡ length l.initial.trunks.lines.items;
  labels : length l.trunks.labels.items ≡ length l.initial.trunks.labels.items;
}
