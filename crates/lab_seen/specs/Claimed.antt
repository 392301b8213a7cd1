-- The claims of an experiment on a lab.
use Rattle.std.specs.Prelude.{ℕ, ◌==◌, ◌++◌, Bool, true, false, not, List, [], ◌∷◌, length, count_by, map, filter, flat_map, slice_get, Option, Some, None, if◌then◌else◌}
use Rattle.std.specs.List.{list_any, range_with_len}
use Rattle.std.specs.Str.{bytes_eq}
use Rattle.lab_base.specs.declared.ids.NodeId.{NodeId}
use Rattle.phys_lab.specs.Labs.{Lab}
use Rattle.phys_lab.specs.declared.parts.Iface.{Iface}
use Rattle.virt_topo.specs.declared.wiring.VirtNode.{VirtNode}
use Rattle.virt_topo.specs.declared.wiring.Wiring.{Wiring}
use Rattle.virt_topo.specs.declared.mapping.Mapping.{Mapping}
use Rattle.virt_topo.specs.declared.mapping.Mapped.{Mapped}
use Rattle.virt_topo.specs.declared.experiment.Experiment.{Experiment}
use Rattle.virt_topo.specs.declared.experiment.Phase.{Phase}
use Rattle.virt_topo.specs.declared.experiment.Phase.TheVariants.{Out, In, Moving}
use Rattle.lab_model.specs.Wants.{node_name}
use Rattle.lab_model.specs.Claims.{Old, New, claimed, is_placed, claims_it, claimed_tags}
use Rattle.lab_view.specs.declared.view.Held.{Held}
use Rattle.lab_view.specs.declared.view.Held.TheVariants as helds
use Rattle.lab_view.specs.declared.view.Stand.{Stand}
use Rattle.lab_view.specs.declared.view.Stand.TheVariants as stands

-- HOW AN EXPERIMENT HOLDS A NODE that its old mapping, or its new one, has
abbrev pub moving_held : Bool → Bool → Held
moving_held true true = helds.Stays
moving_held true false = helds.Goes
moving_held false by_new = helds.Comes

abbrev pub held_in : Phase → Bool → Bool → Held
held_in (Moving old new) by_old by_new = moving_held by_old by_new
held_in phase by_old by_new = helds.Stands

abbrev pub how_held : Lab → Experiment → List ℕ → Held
how_held lab e name = held_in e.phase (is_placed lab (claimed e Old) name) (is_placed lab (claimed e New) name)

-- the mapping has the virtual node of that number on the node of that name
abbrev pub is_there : Lab → List ℕ → Option (NodeId × List ℕ) → Bool
is_there lab name None = false
is_there lab name (Some place) = bytes_eq (node_name lab place.0) name

abbrev pub named : Option VirtNode → List ℕ
named None = []
named (Some guest) = guest.name

abbrev pub hosted_nth : Lab → Wiring → Mapping → List ℕ → ℕ → List (List ℕ)
hosted_nth lab w m name n = if is_there lab name (slice_get m.places n) then named (slice_get w.nodes n) ∷ [] else []

-- the virtual nodes that a mapping has on the node of that name
abbrev pub hosted_of : Lab → Wiring → Mapping → List ℕ → List (List ℕ)
hosted_of lab w m name = flat_map (hosted_nth lab w m name) (range_with_len 0 (length w.nodes))

abbrev pub hosted_in : Lab → Option Mapped → List ℕ → List (List ℕ)
hosted_in lab None name = []
hosted_in lab (Some m) name = hosted_of lab m.wiring m.mapping name

-- names, and after them those of others that are not among them
abbrev pub is_among : List (List ℕ) → List ℕ → Bool
is_among names name = list_any (λ own. bytes_eq own name) names

abbrev pub with_others : List (List ℕ) → List (List ℕ) → List (List ℕ)
with_others names others = names ++ filter (λ name. not (is_among names name)) others

-- THE VIRTUAL NODES OF AN EXPERIMENT on the node of that name: of its old mapping, and of its new one those that the old one has elsewhere
abbrev pub hosted : Lab → Experiment → List ℕ → List (List ℕ)
hosted lab e name = with_others (hosted_in lab (claimed e Old) name) (hosted_in lab (claimed e New) name)

-- which way an experiment moves
abbrev pub way_of : Option Mapped → Option Mapped → Stand
way_of None new = stands.Comes
way_of (Some old) None = stands.Goes
way_of (Some old) (Some new) = stands.Changes

abbrev pub stand_in : Phase → Stand
stand_in Out = stands.Out
stand_in (In mapping tags) = stands.In
stand_in (Moving old new) = way_of old new

abbrev pub stand_of : Experiment → Stand
stand_of e = stand_in e.phase

-- the experiment claims the VLAN id
abbrev pub has_tag : Experiment → ℕ → Bool
has_tag e id = list_any (λ tag. tag == id) (claimed_tags e)

-- HOW MANY nodes and VLAN ids an experiment claims, as the reply to `status` tells it
abbrev pub nodes_claimed : Lab → Experiment → ℕ
nodes_claimed lab e = count_by (λ node. claims_it lab e node.name) lab.nodes

abbrev pub ids_claimed : Experiment → ℕ
ids_claimed e = length (claimed_tags e)

-- by interface of the node of that name, in order, the number of its switch
abbrev pub is_plug_of : Lab → List ℕ → Iface → Bool
is_plug_of lab name i = bytes_eq (node_name lab i.node) name

abbrev pub plugs_of : Lab → List ℕ → List ℕ
plugs_of lab name = map (λ i. i.switch.0) (filter (is_plug_of lab name) lab.ifaces)
