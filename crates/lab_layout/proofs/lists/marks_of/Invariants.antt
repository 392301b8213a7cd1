use Rattle.std.proofs.Common.{◌≡◌, length}
use Rattle.lab_layout.proofs.lists.marks_of.Given as goal

abbrev pub invariant-loop-number : goal.invariant-loop-number
invariant-loop-number l = length l.marks ≡ l.number
