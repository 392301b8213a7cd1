use Rattle.std.proofs.Common.{◌≡◌, ◌<◌, ℕ, length, get_or}
use Rattle.lab_picture.specs.declared.geometry.Bounds.{Bounds}
use Rattle.lab_layout.specs.Laid.{stacked, all_stacked}
use Rattle.lab_layout.proofs.apart.column.Given as goal

abbrev pub invariant-loop-number : goal.invariant-loop-number
invariant-loop-number l = record {
  len : length l.cells ≡ l.number;
  cells : l.cells ≡ all_stacked l.number;
  at : (k : ℕ) (d : Bounds) → k < l.number → get_or l.cells k d ≡ stacked k;
}
