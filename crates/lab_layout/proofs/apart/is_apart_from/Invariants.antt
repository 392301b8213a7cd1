use Rattle.std.proofs.Common.{◌<◌, ℕ, get_or}
use Rattle.lab_picture.specs.declared.geometry.Bounds.{Bounds}
use Rattle.lab_layout.specs.Laid.{IsApart}
use Rattle.lab_layout.proofs.apart.is_apart_from.Given as goal

abbrev pub invariant-loop-other : goal.invariant-loop-other
invariant-loop-other l = (k : ℕ) (d : Bounds) → k < l.other-index → IsApart l.one (get_or l.others k d)
