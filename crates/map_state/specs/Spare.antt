-- Trunks that no mapping can fill.
use Rattle.std.specs.Prelude.{◌<◌, ◌≤◌, ◌+◌, ◌*◌, ℕ, List, length, sum_by, slice_index_or}
use Rattle.phys_lab.specs.Labs.{Lab}
use Rattle.phys_lab.specs.declared.free.Free.{Free}
use Rattle.virt_topo.specs.declared.wiring.Segment.{Segment}
use Rattle.virt_topo.specs.declared.wiring.Wiring.{Wiring}

-- twice the most that all segments can use of a trunk, wherever their plugs are
abbrev pub most_of : List Segment → ℕ
most_of segments = sum_by (λ s. length s.ends * s.kbps) segments

-- of each trunk that much is left
pub record AreSpare (lab : Lab) (free : Free) (w : Wiring) : Type 0 where
  pub each : (t : ℕ) → t < length lab.trunks → most_of w.segments ≤ slice_index_or free.left t 0 + slice_index_or free.left t 0
