-- The network that a text has made so far.
use Rattle.std.specs.Prelude.{ℕ, ◌+◌, ◌==◌, Bool, false, ◌||◌, List, [], ◌∷◌, length, map, codes, position, count_by, slice_index_or, Option, Some, None, if◌then◌else◌}
use Rattle.std.proofs.Common.{zero, suc}
use Rattle.std.specs.List.{list_any}
use Rattle.lab_base.specs.declared.rates.Rates.{Rates}
use Rattle.lab_base.specs.Names.{same_name}
use Rattle.virt_topo.specs.declared.wiring.Asks.{Asks}
use Rattle.virt_topo.specs.declared.wiring.Asks.TheVariants.{Plain, Class as InClass}
use Rattle.virt_topo.specs.declared.wiring.Class.{Class}
use Rattle.virt_topo.specs.declared.wiring.VirtEnd.{VirtEnd}
use Rattle.virt_topo.specs.declared.topo.AskedNode.{AskedNode}
use Rattle.virt_topo.specs.declared.topo.AskedLink.{AskedLink}
use Rattle.virt_topo.specs.Topos.{Topo, asks_type}
use Rattle.ns_words.specs.declared.names.Numbered.TheVariants as numbered
use Rattle.ns_words.specs.Objects.{numbered_name_of}
use Rattle.ns_build.specs.declared.task.NodeChange.{NodeChange}
use Rattle.ns_build.specs.declared.task.NodeChange.TheVariants as nodes
use Rattle.ns_build.specs.declared.task.LinkChange.{LinkChange}
use Rattle.ns_build.specs.declared.task.LinkChange.TheVariants as links
use Rattle.ns_build.specs.declared.task.Planned.{Planned}
use Rattle.ns_events.specs.declared.event.Event.{Event}

-- whether it has a simulator; its nodes, links and LANs, and classes; and the events of its links and LANs, in text order.
-- Until a variable names a node, or a link or LAN, it has the name of its number, from 1
pub record Network : Type 0 where
  pub simulator : Bool
  pub nodes : List AskedNode
  pub links : List AskedLink
  pub classes : List Class
  pub events : List Planned

-- nothing is made
abbrev pub empty : Network
empty = record { simulator = false; nodes = []; links = []; classes = []; events = [] }

-- the network that is asked for
abbrev pub topo_of : Network → Topo
topo_of n = record { nodes = n.nodes; links = n.links; classes = n.classes }

-- the events that are asked for: the link or LAN of each has the name that it has in the end
abbrev pub link_name : Network → ℕ → List ℕ
link_name n index = slice_index_or (map (λ l. l.name) n.links) index []

abbrev pub named_event : Network → Planned → Event
named_event n e = record { at = e.at; link = link_name n e.index; what = e.what; line = e.line }

abbrev pub events_of : Network → List Event
events_of n = map (named_event n) n.events

-- NEW PARTS

-- the names of the next node, and of the next link or LAN
abbrev pub next_node : Network → List ℕ
next_node n = numbered_name_of numbered.Node (length n.nodes + 1)

abbrev pub next_link : Network → List ℕ
next_link n = numbered_name_of numbered.Link (length n.links + 1)

-- a node of type `pc`, with the OS `default`
abbrev pub fresh_node : List ℕ → AskedNode
fresh_node name = record { name = name; asks = Plain (codes "pc"); os = codes "default"; fixed = None }

-- a link or LAN, which is not multiplexed
abbrev pub fresh_link : List ℕ → Bool → Rates → List VirtEnd → AskedLink
fresh_link name lan rates ends = record { name = name; lan = lan; rates = rates; multiplexed = false; ends = ends }

-- without loss
abbrev pub lossless : ℕ → ℕ → Rates
lossless kbps micros = record { kbps = kbps; micros = micros; ppm = 0 }

-- an end without an address
abbrev pub bare_end : ℕ → VirtEnd
bare_end v = record { node = v; address = None }

-- of weight 500
abbrev pub fresh_class : List ℕ → List (List ℕ) → Class
fresh_class name types = record { name = name; weight = 500; types = types }

-- WHAT IT HAS

-- node v is an end
abbrev pub has_end : ℕ → List VirtEnd → Bool
has_end v ends = list_any (λ e. e.node == v) ends

-- node v is on the link
abbrev pub is_on : ℕ → AskedLink → Bool
is_on v l = has_end v l.ends

-- node v is on the link at this index
abbrev pub is_on_at : Network → ℕ → ℕ → Bool
is_on_at n v index = slice_index_or (map (is_on v) n.links) index false

-- the index of the only link or LAN that node v is on
abbrev pub only_link : Network → ℕ → Option ℕ
only_link n v = if count_by (is_on v) n.links == 1 then position (is_on v) n.links else None

-- what a type's name asks for: the class of that name where one is made
abbrev pub asks_in : List ℕ → Option ℕ → Asks
asks_in type (Some c) = InClass c
asks_in type None = Plain type

abbrev pub asks_of : Network → List ℕ → Asks
asks_of n type = asks_in type (position (λ c. same_name c.name type) n.classes)

-- no class may have the name: a type of nodes or of delay nodes, the present type of a node, or a class's name
abbrev pub refuses_class : Network → List ℕ → Bool
refuses_class n name =
    same_name name (codes "pc")
    || (same_name name (codes "delay")
    || (list_any (λ v. asks_type name v.asks) n.nodes
    || list_any (λ c. same_name c.name name) n.classes))

-- CHANGES

-- the element at this index is changed, if there is one
abbrev pub changed_at : {X : Type 0} → (X → X) → ℕ → List X → List X
changed_at f index [] = []
changed_at f zero (x ∷ xs) = f x ∷ xs
changed_at f (suc index) (x ∷ xs) = x ∷ changed_at f index xs

-- what a node gets replaces what it had
abbrev pub node_with : NodeChange → AskedNode → AskedNode
node_with (nodes.Name name) v = record v { name = name }
node_with (nodes.Asks asks) v = record v { asks = asks }
node_with (nodes.Os os) v = record v { os = os }
node_with (nodes.Fixed fixed) v = record v { fixed = Some fixed }

-- the end of node v has this address
abbrev pub addressed : ℕ → ℕ → VirtEnd → VirtEnd
addressed v ip e = if e.node == v then record e { address = Some ip } else e

-- what a link or LAN gets replaces what it had
abbrev pub link_with : LinkChange → AskedLink → AskedLink
link_with (links.Name name) l = record l { name = name }
link_with (links.Loss ppm) l = record l { rates = record l.rates { ppm = ppm } }
link_with (links.Multiplexed multiplexed) l = record l { multiplexed = multiplexed }
link_with (links.Address v ip) l = record l { ends = map (addressed v ip) l.ends }

abbrev pub change_node : Network → ℕ → NodeChange → Network
change_node n v change = record n { nodes = changed_at (node_with change) v n.nodes }

abbrev pub change_link : Network → ℕ → LinkChange → Network
change_link n l change = record n { links = changed_at (link_with change) l n.links }
