-- Ends and plugs, node by node.
use Rattle.std.specs.Prelude.{ℕ, ◌+◌, ◌==◌, List, [], ◌∷◌, Bool, false, drop, slice_get, slice_index_or, if◌then◌else◌}
use Rattle.std.specs.Option.{option_map_or}
use Rattle.lab_base.specs.declared.ids.IfaceId.{IfaceId}
use Rattle.lab_model.specs.Shapes.{Place}
use Rattle.lab_model.specs.Rules.{no_place}
use Rattle.trunk_sums.specs.declared.made.Change.{Change}
use Rattle.trunk_sums.specs.declared.sums.EndRow.{EndRow}
use Rattle.node_maps.specs.declared.ends.End.{End}

-- the virtual node of the end is placed on node n
abbrev pub is_on : List Place → ℕ → End → Bool
is_on places n e = (slice_index_or places e.node no_place).0.0 == n

-- the virtual node of the end has node n as its host
abbrev pub is_host : List ℕ → ℕ → End → Bool
is_host hosts n e = option_map_or (λ h. h == n) (slice_get hosts e.node) false

abbrev pub no_end : End
no_end = record { node = 0; segment = 0; multiplexed = false; kbps = 0 }

abbrev pub no_row : EndRow
no_row = record { segment = 0; ends = 0; kbps = 0 }

-- the numbers of the ends that pass a test, where the first end has number k
abbrev pub numbers_of : ℕ → (End → Bool) → List End → List ℕ
numbers_of k p [] = []
numbers_of k p (e ∷ es) = if p e then k ∷ numbers_of (k + 1) p es else numbers_of (k + 1) p es

-- the plugs of the ends that pass a test
abbrev pub plugs_where : (End → Bool) → List End → List IfaceId → List IfaceId
plugs_where p [] plugs = []
plugs_where p (e ∷ es) [] = []
plugs_where p (e ∷ es) (i ∷ plugs) = if p e then i ∷ plugs_where p es plugs else plugs_where p es plugs

-- the plugs, where the ends that pass a test have got new ones, in order
abbrev pub with_plugs : (End → Bool) → List End → (plugs new : List IfaceId) → List IfaceId
with_plugs p [] plugs new = plugs
with_plugs p (e ∷ es) [] new = []
with_plugs p (e ∷ es) (i ∷ plugs) new = if p e then slice_index_or new 0 i ∷ with_plugs p es plugs (drop 1 new) else i ∷ with_plugs p es plugs new

-- ends with these numbers that go to these plugs
abbrev pub changes_of : List EndRow → List ℕ → List IfaceId → List Change
changes_of rows [] plugs = []
changes_of rows (k ∷ numbers) [] = []
changes_of rows (k ∷ numbers) (i ∷ plugs) = record { end = k; row = slice_index_or rows k no_row; to = i } ∷ changes_of rows numbers plugs
