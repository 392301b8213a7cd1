-- Candidates, the interface rule, and node maps.
use Rattle.std.specs.Prelude.{◌≡◌, ℕ, ◌+◌, ◌<◌, List, [], ◌∷◌, ◌++◌, length, map, filter, Bool, true, false, ◌==◌, ◌&&◌, if◌then◌else◌, Option, Some, None, is_none, option_and_then, All, Contains, slice_get, slice_index_or}
use Rattle.std.specs.Option.{option_map_or, option_map}
use Rattle.lab_base.specs.declared.ids.NodeId.{NodeId}
use Rattle.lab_base.specs.declared.ids.IfaceId.{IfaceId}
use Rattle.phys_lab.specs.declared.parts.Node.{Node}
use Rattle.phys_lab.specs.declared.parts.Iface.{Iface}
use Rattle.phys_lab.specs.declared.free.Free.{Free}
use Rattle.phys_lab.specs.Labs.{Lab}
use Rattle.virt_topo.specs.declared.wiring.VirtNode.{VirtNode}
use Rattle.virt_topo.specs.declared.wiring.VirtEnd.{VirtEnd}
use Rattle.virt_topo.specs.declared.wiring.Segment.{Segment}
use Rattle.virt_topo.specs.declared.wiring.Wiring.{Wiring}
use Rattle.virt_topo.specs.declared.mapping.Mapping.{Mapping}
use Rattle.lab_model.specs.Shapes.{Place, node_at, has_name}
use Rattle.virt_topo.specs.declared.loads.Load.{Load}
use Rattle.lab_model.specs.Rules.{suits, is_fixed_at, Laid, loads_on, may_bear}
use Rattle.lab_model.specs.Feasible.{violation}
use Rattle.node_maps.specs.declared.ends.End.{End}

-- CANDIDATES

-- the places of nodes, of which the first has number n: by node, then by type
abbrev pub places_from : ℕ → List Node → List Place
places_from n [] = []
places_from n (x ∷ xs) = map (λ t. (record { 0 = n }, t.0)) x.types ++ places_from (n + 1) xs

-- the places of a lab
abbrev pub lab_places : Lab → List Place
lab_places lab = places_from 0 lab.nodes

-- each is a node of the lab with one of its types
pub record ArePlaces (lab : Lab) (places : List Place) : Type 0 where
  pub in_nodes : All (λ p. p.0.0 < length lab.nodes) places
  pub of_node : All (λ p. has_name (node_at lab p.0).types p.1 ≡ true) places

-- F1, F4, and F3 without its words on classes of weight 1000: the node is free, the virtual node suits it, and may be there
abbrev pub is_candidate : Lab → Free → Wiring → VirtNode → Place → Bool
is_candidate lab free w v p =
    slice_index_or free.nodes p.0.0 false
    && (suits w v (node_at lab p.0).features p.1
    && is_fixed_at v.fixed (node_at lab p.0).name)

-- the candidates of a virtual node among these places
abbrev pub candidates_among : Lab → Free → Wiring → List Place → VirtNode → List Place
candidates_among lab free w places v = filter (λ p. is_candidate lab free w v p) places

-- the candidates of a virtual node, in the lab's order
abbrev pub candidates_of : Lab → Free → Wiring → VirtNode → List Place
candidates_of lab free w v = candidates_among lab free w (lab_places lab) v

-- the candidates by virtual node
unfoldable pub candidates : Lab → Free → Wiring → List (List Place)
candidates lab free w = map (λ v. candidates_of lab free w v) w.nodes

-- a candidate for each virtual node
pub record IsChoice (cs : List (List Place)) (places : List Place) : Type 0 where
  pub one_each : length places ≡ length cs
  pub among : (v : ℕ) (d : Place) → v < length cs → Contains (slice_index_or cs v []) (slice_index_or places v d)

-- THE INTERFACE RULE

-- an end of segment n
abbrev pub segment_end : ℕ → Segment → VirtEnd → End
segment_end n s e = record { node = e.node; segment = n; multiplexed = s.multiplexed; kbps = s.kbps }

-- the ends of segments in their order, where the first segment has number n
abbrev pub ends_from : ℕ → List Segment → List End
ends_from n [] = []
ends_from n (s ∷ segments) = map (segment_end n s) s.ends ++ ends_from (n + 1) segments

abbrev pub ends_of : List Segment → List End
ends_of segments = ends_from 0 segments

-- what an end puts on its interface
abbrev pub load_of : End → Load
load_of e = record { segment = e.segment; kbps = e.kbps; multiplexed = e.multiplexed }

-- interface n may be given to an end on that node: it is of the node, and F5 holds of the end there, beside what the earlier ends put on it
abbrev pub may_take : ℕ → Iface → List Laid → NodeId → Load → Bool
may_take n x had node load = (x.node.0 == node.0) && may_bear x.kbps (loads_on n had) load

-- the first of interfaces, which are numbered from n on, that may be given
abbrev pub first_iface : ℕ → List Iface → List Laid → NodeId → Load → Option IfaceId
first_iface n [] had node load = None
first_iface n (x ∷ xs) had node load = if may_take n x had node load then Some (record { 0 = n }) else first_iface (n + 1) xs had node load

-- what the earlier ends put on their interfaces, and one more end, where its virtual node is placed; None where no interface may be given
abbrev pub with_plug : Lab → List Place → End → List Laid → Option (List Laid)
with_plug lab places e had =
    option_map_or (λ p. option_map (λ i. had ++ (load_of e, i) ∷ []) (first_iface 0 lab.ifaces had p.0 (load_of e))) (slice_get places e.node) (Some had)

-- the same of all ends whose virtual nodes are placed, after the earlier ones
abbrev pub laid_from : Lab → List Place → List End → List Laid → Option (List Laid)
laid_from lab places [] had = Some had
laid_from lab places (e ∷ es) had = option_and_then (λ laid. laid_from lab places es laid) (with_plug lab places e had)

abbrev pub plugs_in : List Laid → List IfaceId
plugs_in laid = map (λ x. x.1) laid

-- the plugs of the ends whose virtual nodes are placed
abbrev pub plugs_from : Lab → List Place → List End → Option (List IfaceId)
plugs_from lab places es = option_map (λ laid. plugs_in laid) (laid_from lab places es [])

-- the plugs that the rule gives the ends of a wiring whose virtual nodes are placed
abbrev pub plugs_of : Lab → Wiring → List Place → Option (List IfaceId)
plugs_of lab w places = plugs_from lab places (ends_of w.segments)

-- NODE MAPS

-- a mapping where it is feasible
abbrev pub if_feasible : Lab → Free → Wiring → Mapping → Option Mapping
if_feasible lab free w m = if is_none (violation lab free w m) then Some m else None

-- the mapping of the places with the interfaces given by the rule, where it is feasible
unfoldable pub node_map : Lab → Free → Wiring → List Place → Option Mapping
node_map lab free w places = option_and_then (λ plugs. if_feasible lab free w (record { places = places; plugs = plugs })) (plugs_of lab w places)
