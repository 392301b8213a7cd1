-- The nodes, trunks and VLAN ids that a mapping may take beside the experiments of a lab.
use Rattle.std.specs.Prelude.{◌≡◌, ◌<◌, ◌+◌, ◌-◌, ℕ, Bool, not, ◌&&◌, ◌==◌, nat_le, List, [], ◌∷◌, length, map, slice_index_or, sum_by, Option, Some, None, true, false}
use Rattle.std.specs.List.{flat_map, list_any, list_all}
use Rattle.lab_base.specs.declared.ids.VlanId.{VlanId}
use Rattle.phys_lab.specs.declared.free.Free.{Free}
use Rattle.phys_lab.specs.Labs.{Lab}
use Rattle.phys_lab.specs.Sides.{trunk_at}
use Rattle.virt_topo.specs.declared.violation.Broken.{Broken}
use Rattle.virt_topo.specs.declared.violation.Subject.{Subject}
use Rattle.virt_topo.specs.declared.wiring.Wiring.{Wiring}
use Rattle.virt_topo.specs.declared.mapping.Mapping.{Mapping}
use Rattle.virt_topo.specs.declared.mapping.Mapped.{Mapped}
use Rattle.virt_topo.specs.declared.experiment.Experiment.{Experiment}
use Rattle.lab_model.specs.Uses.{use_of}
use Rattle.lab_model.specs.Shapes.{IsFreeOf}
use Rattle.lab_model.specs.Rules.{place_at}
use Rattle.lab_model.specs.Wants.{node_name}
use Rattle.lab_model.specs.Claims.{Old, New, claimed, claimed_tags, claimed_use, claims_it}
use Rattle.lab_model.specs.Feasible.{first_violation}

-- one of these experiments claims the node
abbrev pub is_claimed : Lab → List Experiment → List ℕ → Bool
is_claimed lab es name = list_any (λ e. claims_it lab e name) es

-- the segments of an experiment's claimed mappings: one VLAN id for each
abbrev pub segments_in : Option Mapped → ℕ
segments_in None = 0
segments_in (Some m) = length m.wiring.segments

abbrev pub claimed_segments : Experiment → ℕ
claimed_segments e = segments_in (claimed e Old) + segments_in (claimed e New)

-- how many VLAN ids the lab has
abbrev pub ids_of : Lab → ℕ
ids_of lab = lab.range.1 + 1 - lab.range.0

-- F1 beside the others: no other experiment claims the virtual node's place
abbrev pub is_unclaimed : Lab → List Experiment → Mapping → ℕ → Bool
is_unclaimed lab others m v = not (is_claimed lab others (node_name lab (place_at m v).0))

-- F6 beside the others: use plus the others' claims is at most the trunk's kbps
abbrev pub has_room : Lab → List Experiment → Wiring → Mapping → ℕ → Bool
has_room lab others w m t = nat_le (use_of lab w m t + sum_by (claimed_use lab t) others) (trunk_at lab.trunks t).kbps

-- F8 beside the others: the segments and all claimed ones, one's own old ones included, are at most the VLAN ids
abbrev pub has_ids : Lab → List Experiment → Experiment → Wiring → Bool
has_ids lab others own w = nat_le (length w.segments + sum_by claimed_segments (own ∷ others)) (ids_of lab)

-- THE FIRST VIOLATION beside the other experiments, where `own` is the experiment that is mapped, with its old claim
abbrev pub violation_beside : Lab → List Experiment → Experiment → Wiring → Mapping → Option (Broken × Subject)
violation_beside lab others own w m = first_violation lab w m (is_unclaimed lab others m) (has_room lab others w m) (has_ids lab others own w)

-- what the others leave: by node whether none of them claims it, by trunk the kbps that they don't claim, and the number of
-- VLAN ids that no claim has, one's own old claim included
pub record IsLeft (lab : Lab) (others : List Experiment) (own : Experiment) (free : Free) : Type 0 where
  pub sizes : IsFreeOf lab free
  pub unclaimed : (n : ℕ) → n < length lab.nodes → slice_index_or free.nodes n false ≡ not (is_claimed lab others (node_name lab (record { 0 = n })))
  pub room : (t : ℕ) → t < length lab.trunks → slice_index_or free.left t 0 + sum_by (claimed_use lab t) others ≡ (trunk_at lab.trunks t).kbps
  pub ids : free.vlans + sum_by claimed_segments (own ∷ others) ≡ ids_of lab

-- no number stands twice, as a test
abbrev pub all_differ : List ℕ → Bool
all_differ [] = true
all_differ (x ∷ xs) = not (list_any (λ y. y == x) xs) && all_differ xs

-- one tag per segment, distinct, in the lab's range and in no claim
abbrev pub are_free_tags : Lab → List Experiment → Wiring → List VlanId → Bool
are_free_tags lab es w tags =
    (length tags == length w.segments)
    && all_differ (map (λ tag. tag.0) tags)
    && list_all (λ tag. nat_le lab.range.0 tag.0 && nat_le tag.0 lab.range.1 && not (list_any (λ u. u == tag.0) (flat_map claimed_tags es))) tags
