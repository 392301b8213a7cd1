-- Holding as a test.
use Rattle.std.specs.Prelude.{◌*◌, ℕ, Bool, true, false, not, ◌&&◌, ◌||◌, ◌==◌, nat_lt, nat_le, List, [], ◌∷◌, length, replicate, Option, Some, None, is_none, sum_by}
use Rattle.std.specs.List.{flat_map, list_any, list_all}
use Rattle.lab_base.specs.declared.ids.IfaceId.{IfaceId}
use Rattle.phys_lab.specs.Labs.{Lab}
use Rattle.phys_lab.specs.declared.free.Free.{Free}
use Rattle.phys_lab.specs.Sides.{trunk_at}
use Rattle.virt_topo.specs.Ends.{end_nodes}
use Rattle.virt_topo.specs.Soundness.{wiring_fault}
use Rattle.virt_topo.specs.declared.wiring.Wiring.{Wiring}
use Rattle.virt_topo.specs.declared.mapping.Mapping.{Mapping}
use Rattle.virt_topo.specs.declared.mapping.Mapped.{Mapped}
use Rattle.virt_topo.specs.declared.experiment.Experiment.{Experiment}
use Rattle.lab_model.specs.Shapes.{Place, node_at, has_name}
use Rattle.lab_model.specs.Feasible.{first_below, violation}
use Rattle.lab_model.specs.Beside.{all_differ}
use Rattle.lab_model.specs.Wants.{node_name}
use Rattle.lab_model.specs.Claims.{Old, New, claimed, claims_it, claimed_tags, claimed_use}

-- all numbers below n pass the test
abbrev pub all_pass : ℕ → (ℕ → Bool) → Bool
all_pass n test = is_none (first_below n test)

abbrev pub is_sound : Wiring → Bool
is_sound w = is_none (wiring_fault w)

-- the mapping is shaped for lab and wiring
abbrev pub is_place : Lab → Place → Bool
is_place lab p = nat_lt p.0.0 (length lab.nodes) && has_name (node_at lab p.0).types p.1

abbrev pub is_plug : Lab → IfaceId → Bool
is_plug lab i = nat_lt i.0 (length lab.ifaces)

abbrev pub is_shaped : Lab → Wiring → Mapping → Bool
is_shaped lab w m =
    (length m.places == length w.nodes)
    && ((length m.plugs == length (end_nodes w.segments))
    && (list_all (is_place lab) m.places
    && list_all (is_plug lab) m.plugs))

-- nobody claims anything: no mapping uses more of a trunk than is left, or has more segments than VLAN ids are left
abbrev pub unclaimed : Lab → Free
unclaimed lab = record { nodes = replicate (length lab.nodes) true; left = replicate (length lab.trunks) (4096 * 1000000000); vlans = 512 }

-- the mapping keeps the rules in which others have no part
abbrev pub keeps_rules : Lab → Wiring → Mapping → Bool
keeps_rules lab w m = is_none (violation lab (unclaimed lab) w m)

-- the mapping suits the lab
abbrev pub suits : Lab → Mapped → Bool
suits lab m = is_sound m.wiring && (is_shaped lab m.wiring m.mapping && ((length m.tags == length m.wiring.segments) && keeps_rules lab m.wiring m.mapping))

-- so does each mapping that is claimed
abbrev pub fits_in : Lab → Option Mapped → Bool
fits_in lab None = true
fits_in lab (Some m) = suits lab m

abbrev pub fits : Lab → Experiment → Bool
fits lab e = fits_in lab (claimed e Old) && fits_in lab (claimed e New)

abbrev pub all_fit : Lab → List Experiment → Bool
all_fit lab es = list_all (fits lab) es

-- two experiments claim one node
abbrev pub shares_place : Lab → Experiment → List Place → Bool
shares_place lab f places = list_any (λ p. claims_it lab f (node_name lab p.0)) places

abbrev pub shares_in : Lab → Experiment → Option Mapped → Bool
shares_in lab f None = false
shares_in lab f (Some m) = shares_place lab f m.mapping.places

abbrev pub shares : Lab → Experiment → Experiment → Bool
shares lab f e = shares_in lab f (claimed e Old) || shares_in lab f (claimed e New)

-- no node is claimed twice
abbrev pub are_apart : Lab → List Experiment → Bool
are_apart lab [] = true
are_apart lab (e ∷ es) = list_all (λ f. not (shares lab f e)) es && are_apart lab es

-- a trunk has room for all claims
abbrev pub has_room : Lab → List Experiment → ℕ → Bool
has_room lab es t = nat_le (sum_by (claimed_use lab t) es) (trunk_at lab.trunks t).kbps

-- the ids differ and are in range
abbrev pub is_in_range : Lab → ℕ → Bool
is_in_range lab tag = nat_le lab.range.0 tag && nat_le tag lab.range.1

abbrev pub are_tags : Lab → List ℕ → Bool
are_tags lab tags = all_differ tags && list_all (is_in_range lab) tags

-- HOLDING, as a test
abbrev pub is_holding : Lab → List Experiment → Bool
is_holding lab es =
    all_fit lab es
    && (are_apart lab es
    && (all_pass (length lab.trunks) (has_room lab es)
    && are_tags lab (flat_map claimed_tags es)))
