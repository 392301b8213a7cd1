-- THE RUNNING SUMS ARE WHAT COUNTING ANEW GIVES.
use Rattle.std.specs.Prelude.{false, ◌≡◌, ◌<◌, ◌≤◌, ◌+◌, ◌*◌, ℕ, zero, suc, List, [], ◌∷◌, length, slice_index_or, sum_by}
use Rattle.lab_base.specs.declared.ids.IfaceId.{IfaceId}
use Rattle.phys_lab.specs.Labs.{Lab}
use Rattle.virt_topo.specs.declared.wiring.Segment.{Segment}
use Rattle.virt_topo.specs.declared.wiring.Wiring.{Wiring}
use Rattle.virt_topo.specs.Cables.{Cable, cables, cut_use, plugs_on}
use Rattle.trunk_sums.specs.declared.sums.Sums.{Sums}
use Rattle.trunk_sums.specs.declared.sums.EndRow.{EndRow}
use Rattle.trunk_sums.specs.Crossed.{side_of}
use Rattle.trunk_sums.specs.Gains.{IsGain, no_gains}

abbrev pub no_segment : Segment
no_segment = record { name = []; owner = []; kbps = 0; multiplexed = false; ends = [] }

abbrev pub no_cable : Cable
no_cable = record { segment = no_segment; plugs = [] }

-- the plugs of segment s
abbrev pub own_plugs : List Segment → List IfaceId → ℕ → List IfaceId
own_plugs segments plugs s = (slice_index_or (cables segments plugs) s no_cable).plugs

-- what the segments with these plugs use of trunk t
abbrev pub used : Lab → Wiring → List IfaceId → ℕ → ℕ
used lab w plugs t = cut_use (side_of lab t) (cables w.segments plugs)

-- the number of the first end of segment s
abbrev pub first_end : List Segment → ℕ → ℕ
first_end [] s = 0
first_end (x ∷ segments) zero = 0
first_end (x ∷ segments) (suc s) = length x.ends + first_end segments s

-- the row tells of an end its segment, that segment's speed, and how many ends it has
pub record IsRow (w : Wiring) (end : ℕ) (row : EndRow) : Type 0 where
  pub segment : row.segment < length w.segments
  pub ends : row.ends ≡ length (slice_index_or w.segments row.segment no_segment).ends
  pub kbps : row.kbps ≡ (slice_index_or w.segments row.segment no_segment).kbps
  pub from : first_end w.segments row.segment ≤ end
  pub below : end < first_end w.segments row.segment + row.ends

-- by segment and trunk the plugs on the first side and what one more or less does, by trunk the use, and the sum of the uses
pub record IsSummed (lab : Lab) (w : Wiring) (plugs : List IfaceId) (x : Sums) : Type 0 where
  pub room : length x.counts.items ≡ 64 * length w.segments
  pub one_each : length x.uses.items ≡ length lab.trunks
  pub counts : (s t : ℕ) → s < length w.segments → t < length lab.trunks → slice_index_or x.counts.items (64 * s + t) 0 ≡ plugs_on (side_of lab t) (own_plugs w.segments plugs s)
  pub uses : (t : ℕ) → t < length lab.trunks → slice_index_or x.uses.items t 0 ≡ used lab w plugs t
  pub total : x.total ≡ sum_by (λ (u : ℕ). u) x.uses.items
  pub gained : length x.gains.items ≡ length w.segments
  pub gains : (s t : ℕ) → s < length w.segments → t < length lab.trunks
      → IsGain (length (slice_index_or w.segments s no_segment).ends) (slice_index_or x.counts.items (64 * s + t) 0) t
      (slice_index_or x.gains.items s no_gains)
