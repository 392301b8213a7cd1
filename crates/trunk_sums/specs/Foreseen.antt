-- Changes that aren't made.
use Rattle.std.specs.Prelude.{◌≡◌, ◌≢◌, ◌<◌, ℕ, List, length, slice_index_or}
use Rattle.lab_base.specs.declared.ids.IfaceId.{IfaceId}
use Rattle.phys_lab.specs.Labs.{Lab}
use Rattle.virt_topo.specs.declared.wiring.Wiring.{Wiring}
use Rattle.virt_topo.specs.Ends.{end_nodes}
use Rattle.trunk_sums.specs.declared.made.Change.{Change}
use Rattle.trunk_sums.specs.Summed.{own_plugs}
use Rattle.trunk_sums.specs.Totals.{used_of_all}

-- each change is of a later segment than those before it
abbrev pub AreRising : List Change → Type 0
AreRising cs = (j k : ℕ) (d e : Change) → j < k → k < length cs → (slice_index_or cs j d).row.segment < (slice_index_or cs k e).row.segment

-- no two changes are of one segment
abbrev pub AreApart : List Change → Type 0
AreApart cs = (j k : ℕ) (d e : Change) → j < k → k < length cs → (slice_index_or cs j d).row.segment ≢ (slice_index_or cs k e).row.segment

-- the sum is that of the uses of all trunks by some plugs that are as these on segment s
pub record AreUses (lab : Lab) (w : Wiring) (plugs : List IfaceId) (s sum : ℕ) : Type 0 where
  pub others : List IfaceId
  pub one_each : length others ≡ length (end_nodes w.segments)
  pub own : own_plugs w.segments others s ≡ own_plugs w.segments plugs s
  pub uses : sum ≡ used_of_all lab w others
