use Rattle.std.proofs.Common.{◌<◌, ℕ, get_or}
use Rattle.lab_picture.specs.declared.geometry.Bounds.{Bounds}
use Rattle.lab_layout.specs.Laid.{HasRoom}
use Rattle.lab_layout.proofs.apart.all_have_room.Given as goal

abbrev pub invariant-loop-place : goal.invariant-loop-place
invariant-loop-place l = (k : ℕ) (d : Bounds) → k < l.place-index → HasRoom (get_or l.places k d)
