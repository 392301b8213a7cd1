use Rattle.std.proofs.Common.{◌≡◌, length}
use Rattle.lab_layout.proofs.trunks.Trunks.note_all.Given as goal

abbrev pub invariant-loop-number : goal.invariant-loop-number
invariant-loop-number l = record {
  lines : length l.self.lines.items ≡ length l.initial.self.lines.items;
  labels : length l.self.labels.items ≡ length l.initial.self.labels.items;
}
