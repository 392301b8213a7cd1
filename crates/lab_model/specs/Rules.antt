-- The eight rules of mappings, each as a test of one subject.
use Rattle.std.specs.Prelude.{◌+◌, ℕ, Bool, true, false, not, ◌&&◌, ◌||◌, ◌==◌, nat_lt, nat_le, List, [], ◌∷◌, length, take, zip, sum_by, slice_index_or, Option, Some, None, if◌then◌else◌}
use Rattle.std.specs.List.{list_any, list_all}
use Rattle.lab_base.specs.declared.ids.IfaceId.{IfaceId}
use Rattle.lab_base.specs.Names.{same_name}
use Rattle.phys_lab.specs.declared.free.Free.{Free}
use Rattle.phys_lab.specs.Labs.{Lab}
use Rattle.phys_lab.specs.Sides.{joined}
use Rattle.virt_topo.specs.Ends.{end_nodes}
use Rattle.virt_topo.specs.Loads.{loads_of}
use Rattle.virt_topo.specs.declared.loads.Load.{Load}
use Rattle.virt_topo.specs.Cables.{Cable}
use Rattle.virt_topo.specs.declared.wiring.Asks.{Asks}
use Rattle.virt_topo.specs.declared.wiring.Asks.TheVariants.{Plain, Class as InClass}
use Rattle.virt_topo.specs.declared.wiring.Class.{Class}
use Rattle.virt_topo.specs.declared.wiring.VirtNode.{VirtNode}
use Rattle.virt_topo.specs.declared.wiring.Segment.{Segment}
use Rattle.virt_topo.specs.declared.wiring.Wiring.{Wiring}
use Rattle.virt_topo.specs.declared.mapping.Mapping.{Mapping}
use Rattle.virt_topo.specs.Wirings.{virt_at}
use Rattle.lab_model.specs.Uses.{iface_at, switch_of, cables_of, use_of}
use Rattle.lab_model.specs.Shapes.{Place, node_at, has_name}

abbrev pub no_place : Place
no_place = record { 0 = record { 0 = 0 }; 1 = [] }

abbrev pub place_at : Mapping → ℕ → Place
place_at m v = slice_index_or m.places v no_place

abbrev pub plug_at : Mapping → ℕ → IfaceId
plug_at m e = slice_index_or m.plugs e (record { 0 = 0 })

-- F1: the virtual node is placed on a node that no other experiment claims
abbrev pub keeps_f1 : Free → Mapping → ℕ → Bool
keeps_f1 free m v = slice_index_or free.nodes (place_at m v).0.0 false

-- a virtual node on a node: its type there, and its OS
abbrev pub HostedNode : Type 0
HostedNode = List ℕ × List ℕ

-- the virtual nodes on node n, in wiring order
abbrev pub hosted : List VirtNode → List Place → ℕ → List HostedNode
hosted [] places n = []
hosted (v ∷ vs) [] n = []
hosted (v ∷ vs) (p ∷ places) n = if p.0.0 == n then (p.1, v.os) ∷ hosted vs places n else hosted vs places n

-- the number of the name, 0 where it isn't there
abbrev pub number_of : List (List ℕ × ℕ) → List ℕ → ℕ
number_of [] name = 0
number_of (p ∷ pairs) name = if same_name p.0 name then p.1 else number_of pairs name

abbrev pub agree : List (List ℕ × ℕ) → List HostedNode → Bool
agree types [] = true
agree types (g ∷ gs) = list_all (λ h. same_name h.0 g.0 && same_name h.1 g.1) gs && nat_le (length gs + 1) (number_of types g.0)

-- F2: the virtual nodes on node n have one type and one OS and are at most as many as that type's count there
abbrev pub keeps_f2 : Lab → Wiring → Mapping → ℕ → Bool
keeps_f2 lab w m n = agree (node_at lab (record { 0 = n })).types (hosted w.nodes m.places n)

abbrev pub no_class : Class
no_class = record { name = []; weight = 0; types = [] }

abbrev pub class_at : Wiring → ℕ → Class
class_at w c = slice_index_or w.classes c no_class

-- the type is the one that is asked for, or in the class
abbrev pub is_asked : Wiring → Asks → List ℕ → Bool
is_asked w (Plain t) type = same_name t type
is_asked w (InClass c) type = list_any (λ t. same_name t type) (class_at w c).types

-- each name of weight 1000 or more is among the others
abbrev pub are_met : List (List ℕ × ℕ) → List (List ℕ × ℕ) → Bool
are_met wanted given = list_all (λ p. nat_lt p.1 1000 || has_name given p.0) wanted

abbrev pub is_member : ℕ → Asks → Bool
is_member c (InClass d) = d == c
is_member c (Plain t) = false

-- the type of the class's first member
abbrev pub first_type : ℕ → List VirtNode → List Place → List ℕ
first_type c [] places = []
first_type c (v ∷ vs) [] = []
first_type c (v ∷ vs) (p ∷ places) = if is_member c v.asks then p.1 else first_type c vs places

-- the members of a class of weight 1000 or more have the type of its first member
abbrev pub is_of_one_type : Wiring → Mapping → Asks → List ℕ → Bool
is_of_one_type w m (Plain t) type = true
is_of_one_type w m (InClass c) type = nat_lt (class_at w c).weight 1000 || same_name (first_type c w.nodes m.places) type

-- a virtual node has the type that it asks for, what it must have, and nothing that it must ask for
abbrev pub suits : Wiring → VirtNode → List (List ℕ × ℕ) → List ℕ → Bool
suits w v features type = is_asked w v.asks type && (are_met v.desires features && are_met features v.desires)

-- F3: the place's type is asked for; desires of weight 1000 are features; features of weight 1000 are desired; and the
-- members of a class of weight 1000 have one type
abbrev pub keeps_f3 : Lab → Wiring → Mapping → ℕ → Bool
keeps_f3 lab w m v =
    suits w (virt_at w v) (node_at lab (place_at m v).0).features (place_at m v).1
    && is_of_one_type w m (virt_at w v).asks (place_at m v).1

abbrev pub is_fixed_at : Option (List ℕ) → List ℕ → Bool
is_fixed_at None name = true
is_fixed_at (Some fixed) name = same_name fixed name

-- F4: a fixed virtual node is on the node so named
abbrev pub keeps_f4 : Lab → Wiring → Mapping → ℕ → Bool
keeps_f4 lab w m v = is_fixed_at (virt_at w v).fixed (node_at lab (place_at m v).0).name

abbrev pub end_node : Wiring → ℕ → ℕ
end_node w e = slice_index_or (end_nodes w.segments) e 0

-- a load on an interface
abbrev pub Laid : Type 0
Laid = Load × IfaceId

-- the loads on interface i
abbrev pub loads_on : ℕ → List Laid → List Load
loads_on i [] = []
loads_on i (x ∷ xs) = if x.1.0 == i then x.0 ∷ loads_on i xs else loads_on i xs

-- two loads may be on one interface: they are of two segments, and both are multiplexed
abbrev pub may_join : Load → Load → Bool
may_join a b = not (a.segment == b.segment) && (a.multiplexed && b.multiplexed)

-- one more load may come to these on an interface of that many kbps: it may be there with each of them, and all add up to at most these kbps
abbrev pub may_bear : ℕ → List Load → Load → Bool
may_bear kbps had x = list_all (λ y. may_join y x) had && nat_le (x.kbps + sum_by (λ y. y.kbps) had) kbps

abbrev pub no_load : Load
no_load = record { segment = 0; kbps = 0; multiplexed = false }

abbrev pub load_at : Wiring → ℕ → Load
load_at w e = slice_index_or (loads_of w) e no_load

-- the ends before end e with their plugs
abbrev pub earlier : Wiring → Mapping → ℕ → List Laid
earlier w m e = zip (take e (loads_of w)) (take e m.plugs)

-- F5: the plug belongs to the node of the end's virtual node, and the end may come to the earlier ends that have it: none is of
-- its own segment, all are of multiplexed segments as it is, and the kbps of all are at most the interface's
abbrev pub keeps_f5 : Lab → Wiring → Mapping → ℕ → Bool
keeps_f5 lab w m e =
    ((iface_at lab (plug_at m e)).node.0 == (place_at m (end_node w e)).0.0)
    && may_bear (iface_at lab (plug_at m e)).kbps (loads_on (plug_at m e).0 (earlier w m e)) (load_at w e)

-- F6: the use of trunk t is at most what the others leave of it
abbrev pub keeps_f6 : Lab → Free → Wiring → Mapping → ℕ → Bool
keeps_f6 lab free w m t = nat_le (use_of lab w m t) (slice_index_or free.left t 0)

abbrev pub no_segment : Segment
no_segment = record { name = []; owner = []; kbps = 0; multiplexed = false; ends = [] }

abbrev pub no_cable : Cable
no_cable = record { segment = no_segment; plugs = [] }

abbrev pub cable_at : Wiring → Mapping → ℕ → Cable
cable_at w m s = slice_index_or (cables_of w m) s no_cable

-- F7: the switches of the segment's plugs are joined by trunks or are one
abbrev pub are_joined : Lab → List IfaceId → Bool
are_joined lab plugs = list_all (λ i. list_all (λ j. joined lab.trunks (switch_of lab i) (switch_of lab j)) plugs) plugs

abbrev pub keeps_f7 : Lab → Wiring → Mapping → ℕ → Bool
keeps_f7 lab w m s = are_joined lab (cable_at w m s).plugs

-- F8: the segments are at most the VLAN ids that no claim has
abbrev pub keeps_f8 : Free → Wiring → Bool
keeps_f8 free w = nat_le (length w.segments) free.vlans
