-- Where things stand, by number.
use Rattle.std.specs.Prelude.{ℕ, List, slice_get, Option, Some, None}
use Rattle.lab_picture.specs.declared.geometry.Bounds.{Bounds}
use Rattle.lab_picture.specs.declared.geometry.Point.{Point}

abbrev pub placed : Option Bounds → Bounds
placed None = record { x = 0; y = 0; wide = 0; high = 0 }
placed (Some p) = p

abbrev pub bounds_at : List Bounds → ℕ → Bounds
bounds_at places n = placed (slice_get places n)

abbrev pub pointed : Option Point → Point
pointed None = record { x = 0; y = 0 }
pointed (Some p) = p

abbrev pub point_at : List Point → ℕ → Point
point_at points n = pointed (slice_get points n)

abbrev pub marked : Option ℕ → ℕ
marked None = 0
marked (Some x) = x

abbrev pub mark_at : List ℕ → ℕ → ℕ
mark_at marks n = marked (slice_get marks n)
