use Rattle.std.proofs.Common.{◌<◌, ℕ, length, get_or}
use Rattle.lab_picture.specs.declared.geometry.Bounds.{Bounds}
use Rattle.lab_layout.specs.Laid.{IsApart}
use Rattle.lab_layout.proofs.apart.all_are_apart.Given as goal

abbrev pub invariant-loop-number : goal.invariant-loop-number
invariant-loop-number l = (i j : ℕ) (d : Bounds) → i < l.number → i < j → j < length l.places → IsApart (get_or l.places i d) (get_or l.places j d)
