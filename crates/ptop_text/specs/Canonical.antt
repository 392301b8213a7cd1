-- The canonical text of a lab.
use Rattle.std.specs.Prelude.{ℕ, List, [], ◌∷◌, ◌++◌, map, codes, decimal, slice_index_or}
use Rattle.line_text.specs.Printing.{text_of, with_number}
use Rattle.phys_lab.specs.Labs.{Lab}
use Rattle.phys_lab.specs.declared.parts.Node.{Node}
use Rattle.phys_lab.specs.declared.parts.Iface.{Iface}
use Rattle.phys_lab.specs.declared.parts.Trunk.{Trunk}
use Rattle.lab_base.specs.declared.ids.SwitchId.{SwitchId}

abbrev pub switch_name : Lab → SwitchId → List ℕ
switch_name lab switch = slice_index_or lab.switches switch.0 []

abbrev pub node_name : Lab → ℕ → List ℕ
node_name lab node = slice_index_or (map (λ n. n.name) lab.nodes) node []

abbrev pub port_field : Lab → SwitchId × ℕ → List ℕ
port_field lab port = with_number (switch_name lab port.0, port.1)

abbrev pub range_line : ℕ × ℕ → List (List ℕ)
range_line range = codes "vlans" ∷ decimal range.0 ∷ decimal range.1 ∷ []

abbrev pub switch_line : List ℕ → List (List ℕ)
switch_line name = codes "node" ∷ name ∷ codes "switch" ∷ []

abbrev pub feature_fields : List (List ℕ × ℕ) → List (List ℕ)
feature_fields [] = []
feature_fields (feature ∷ features) = codes "-" ∷ map with_number (feature ∷ features)

abbrev pub node_line : Node → List (List ℕ)
node_line node = codes "node" ∷ node.name ∷ map with_number node.types ++ feature_fields node.features

abbrev pub iface_line : Lab → Iface → List (List ℕ)
iface_line lab iface =
    codes "link" ∷ iface.link ∷ (node_name lab iface.node.0 ++ 58 ∷ iface.name) ∷ port_field lab (iface.switch, iface.port) ∷ decimal iface.kbps ∷ []

abbrev pub trunk_line : Lab → Trunk → List (List ℕ)
trunk_line lab trunk = codes "link" ∷ trunk.link ∷ port_field lab trunk.first ∷ port_field lab trunk.second ∷ decimal trunk.kbps ∷ []

-- the range, the switches, the nodes, the interfaces and the trunks, each kind in its order
abbrev pub lab_lines : Lab → List (List (List ℕ))
lab_lines lab =
    range_line lab.range ∷ map switch_line lab.switches ++ map node_line lab.nodes ++ map (iface_line lab) lab.ifaces ++ map (trunk_line lab) lab.trunks

abbrev pub canonical : Lab → List ℕ
canonical lab = text_of (lab_lines lab)
