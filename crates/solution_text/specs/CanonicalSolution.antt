-- The canonical text of a mapping.
use Rattle.std.specs.Prelude.{ℕ, ◌==◌, List, [], ◌∷◌, ◌++◌, map, codes, count_by}
use Rattle.std.specs.List.{zip}
use Rattle.lab_base.specs.declared.ids.IfaceId.{IfaceId}
use Rattle.line_text.specs.Printing.{text_of, with_number}
use Rattle.phys_lab.specs.Labs.{Lab}
use Rattle.virt_topo.specs.Ends.{end_nodes}
use Rattle.virt_topo.specs.declared.wiring.VirtNode.{VirtNode}
use Rattle.virt_topo.specs.declared.wiring.Wiring.{Wiring}
use Rattle.virt_topo.specs.declared.mapping.Mapping.{Mapping}
use Rattle.lab_model.specs.Shapes.{Place, node_at}
use Rattle.lab_model.specs.Uses.{iface_at}
use Rattle.top_text.specs.Canonical.{virt_name}

-- by end its virtual node, and how many earlier ends that one has; `earlier` are the virtual nodes of the ends before these
abbrev pub end_keys : List ℕ → List ℕ → List (ℕ × ℕ)
end_keys earlier [] = []
end_keys earlier (v ∷ ends) = (v, count_by (λ x. x == v) earlier) ∷ end_keys (earlier ++ v ∷ []) ends

-- an end: its virtual node, and its number among the ends of that one
abbrev pub end_name : Wiring → ℕ × ℕ → List ℕ
end_name w key = with_number (virt_name w key.0, key.1)

-- `node V NODE TYPE`
abbrev pub place_fields : Lab → VirtNode × Place → List (List ℕ)
place_fields lab placed = codes "node" ∷ placed.0.name ∷ (node_at lab placed.1.0).name ∷ placed.1.1 ∷ []

-- the name of an interface's node and its own, joined by a colon
abbrev pub iface_field : Lab → IfaceId → List ℕ
iface_field lab plug = (node_at lab (iface_at lab plug).node).name ++ 58 ∷ (iface_at lab plug).name

-- `plug V:K NODE:IFACE`
abbrev pub plug_fields : Lab → Wiring → (ℕ × ℕ) × IfaceId → List (List ℕ)
plug_fields lab w plugged = codes "plug" ∷ end_name w plugged.0 ∷ iface_field lab plugged.1 ∷ []

-- places in the order of virtual nodes, plugs in the order of ends
abbrev pub mapping_lines : Lab → Wiring → Mapping → List (List (List ℕ))
mapping_lines lab w m = map (place_fields lab) (zip w.nodes m.places) ++ map (plug_fields lab w) (zip (end_keys [] (end_nodes w.segments)) m.plugs)

abbrev pub canonical_solution : Lab → Wiring → Mapping → List ℕ
canonical_solution lab w m = text_of (mapping_lines lab w m)
