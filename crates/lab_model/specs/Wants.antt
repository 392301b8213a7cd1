-- The rows and nodes that a mapping wants of the devices.
use Rattle.std.specs.Prelude.{ℕ, List, [], ◌∷◌, ◌++◌, map, slice_index_or, slice_get, Option, Some, None, if◌then◌else◌}
use Rattle.std.specs.List.{flat_map, filter_map, enumerate_from}
use Rattle.std.specs.Str.{bytes_eq}
use Rattle.lab_base.specs.declared.ids.IfaceId.{IfaceId}
use Rattle.lab_base.specs.declared.ids.NodeId.{NodeId}
use Rattle.lab_base.specs.declared.ids.VlanId.{VlanId}
use Rattle.lab_base.specs.declared.boot.Boot.TheVariants.{IsUp}
use Rattle.phys_lab.specs.Labs.{Lab}
use Rattle.phys_lab.specs.declared.parts.Trunk.{Trunk}
use Rattle.virt_topo.specs.Ends.{pipe_from, pipe_to}
use Rattle.virt_topo.specs.declared.wiring.Pipe.{Pipe}
use Rattle.virt_topo.specs.declared.wiring.VirtNode.{VirtNode}
use Rattle.virt_topo.specs.declared.mapping.Mapped.{Mapped}
use Rattle.virt_topo.specs.Cables.{Cable}
use Rattle.plant.specs.Worlds.{Row, PipeRow, NodeRow}
use Rattle.lab_model.specs.Uses.{cables_of, iface_at, is_carried}
use Rattle.lab_model.specs.Shapes.{node_at}
use Rattle.lab_model.specs.Rules.{place_at, plug_at}

-- the name of a switch, and of a node
abbrev pub switch_name : Lab → ℕ → List ℕ
switch_name lab s = slice_index_or lab.switches s []

abbrev pub node_name : Lab → NodeId → List ℕ
node_name lab n = (node_at lab n).name

-- a row with the link or LAN that owns it
pub record Owned : Type 0 where
  pub row : Row
  pub owner : List ℕ

-- the row of a plug
abbrev pub plug_row : Lab → ℕ → IfaceId → Row
plug_row lab vlan i = record { switch = switch_name lab (iface_at lab i).switch.0; port = (iface_at lab i).port; vlan = vlan }

-- the two rows of a trunk that carries the cable
abbrev pub trunk_rows : Lab → ℕ → Cable → ℕ × Trunk → List Row
trunk_rows lab vlan c t = if is_carried lab t.0 c
    then record { switch = switch_name lab t.1.first.0.0; port = t.1.first.1; vlan = vlan } ∷ record { switch = switch_name lab t.1.second.0.0; port = t.1.second.1; vlan = vlan } ∷ []
    else []

-- the rows of a cable: those of its plugs, then those of each trunk that carries it
abbrev pub cable_rows : Lab → ℕ → Cable → List Row
cable_rows lab vlan c = map (plug_row lab vlan) c.plugs ++ flat_map (trunk_rows lab vlan c) (enumerate_from 0 lab.trunks)

-- the rows of cables with their VLAN ids, each with its owner
abbrev pub owned_rows : Lab → List Cable → List VlanId → List Owned
owned_rows lab [] tags = []
owned_rows lab (c ∷ cs) [] = []
owned_rows lab (c ∷ cs) (tag ∷ tags) = map (λ row. record { row = row; owner = c.segment.owner }) (cable_rows lab tag.0 c) ++ owned_rows lab cs tags

-- the segments of a mapping with their plugs
abbrev pub cables_in : Mapped → List Cable
cables_in m = cables_of m.wiring m.mapping

-- the rows that a mapping wants, each with its owner
abbrev pub rows_of : Lab → Mapped → List Owned
rows_of lab m = owned_rows lab (cables_in m) m.tags

-- the name of the node that virtual node v is placed on
abbrev pub place_of : Lab → Mapped → ℕ → List ℕ
place_of lab m v = node_name lab (place_at m.mapping v).0

-- the OS of the first of the virtual nodes that is placed on that node
abbrev pub os_on : Lab → List VirtNode → List (NodeId × List ℕ) → List ℕ → Option (List ℕ)
os_on lab [] places name = None
os_on lab (v ∷ vs) [] name = None
os_on lab (v ∷ vs) (p ∷ places) name = if bytes_eq (node_name lab p.0) name then Some v.os else os_on lab vs places name

-- the name of an end's interface on its node
abbrev pub plug_name : Lab → Mapped → ℕ → List ℕ
plug_name lab m e = (iface_at lab (plug_at m.mapping e)).name

-- the pipe between the interfaces of its two ends
abbrev pub pipe_row : Lab → Mapped → Pipe → PipeRow
pipe_row lab m p = record { from = plug_name lab m (pipe_from m.wiring p); to = plug_name lab m (pipe_to m.wiring p); there = p.there; back = p.back }

-- the pipes wanted on a node, numbered from 0 in wiring order
abbrev pub pipes_on : Lab → Mapped → List ℕ → List PipeRow
pipes_on lab m name = filter_map (λ p. if bytes_eq (place_of lab m p.node) name then Some (pipe_row lab m p) else None) m.wiring.pipes

-- what is wanted of a node
abbrev pub node_row_of : Lab → Mapped → List ℕ → NodeRow
node_row_of lab m name = record { os = os_on lab m.wiring.nodes m.mapping.places name; pipes = slice_get (pipes_on lab m name); boot = Some IsUp }
