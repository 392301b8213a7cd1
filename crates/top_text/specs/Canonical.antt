-- The canonical text of a wiring.
use Rattle.std.specs.Prelude.{ℕ, Bool, ◌/◌, ◌%◌, List, [], ◌∷◌, ◌++◌, map, codes, decimal, slice_index_or, Option, Some, None, if◌then◌else◌}
use Rattle.std.specs.List.{flat_map}
use Rattle.line_text.specs.Printing.{text_of, with_number}
use Rattle.line_text.specs.Rates.{rates_fields}
use Rattle.virt_topo.specs.declared.wiring.Asks.{Asks}
use Rattle.virt_topo.specs.declared.wiring.Asks.TheVariants.{Plain, Class as InClass}
use Rattle.virt_topo.specs.declared.wiring.Class.{Class}
use Rattle.virt_topo.specs.declared.wiring.VirtNode.{VirtNode}
use Rattle.virt_topo.specs.declared.wiring.VirtEnd.{VirtEnd}
use Rattle.virt_topo.specs.declared.wiring.Segment.{Segment}
use Rattle.virt_topo.specs.declared.wiring.Pipe.{Pipe}
use Rattle.virt_topo.specs.declared.wiring.Wiring.{Wiring}

abbrev pub virt_name : Wiring → ℕ → List ℕ
virt_name w v = slice_index_or (map (λ n. n.name) w.nodes) v []

abbrev pub class_name : Wiring → ℕ → List ℕ
class_name w c = slice_index_or (map (λ n. n.name) w.classes) c []

-- four numbers joined by dots
abbrev pub address_text : ℕ → List ℕ
address_text a = decimal (a / 16777216) ++ 46 ∷ decimal (a / 65536 % 256) ++ 46 ∷ decimal (a / 256 % 256) ++ 46 ∷ decimal (a % 256)

abbrev pub after_name : Option ℕ → List ℕ
after_name None = []
after_name (Some address) = 61 ∷ address_text address

abbrev pub end_field : Wiring → VirtEnd → List ℕ
end_field w end = virt_name w end.node ++ after_name end.address

abbrev pub asked_name : Wiring → Asks → List ℕ
asked_name w (Plain type) = type
asked_name w (InClass class) = class_name w class

abbrev pub class_fields : Class → List (List ℕ)
class_fields class = codes "make-vclass" ∷ class.name ∷ decimal class.weight ∷ class.types

abbrev pub node_fields : Wiring → VirtNode → List (List ℕ)
node_fields w node = codes "node" ∷ node.name ∷ asked_name w node.asks ∷ node.os ∷ map with_number node.desires

abbrev pub fix_at : List ℕ → Option (List ℕ) → List (List (List ℕ))
fix_at name None = []
fix_at name (Some place) = (codes "fix-node" ∷ name ∷ place ∷ []) ∷ []

abbrev pub fix_lines : VirtNode → List (List (List ℕ))
fix_lines node = fix_at node.name node.fixed

abbrev pub link_fields : Wiring → Segment → List (List ℕ)
link_fields w segment = codes "link" ∷ segment.name ∷ segment.owner ∷ decimal segment.kbps ∷ map (end_field w) segment.ends

abbrev pub multiplex_if : List ℕ → Bool → List (List (List ℕ))
multiplex_if name multiplexed = if multiplexed then (codes "multiplex" ∷ name ∷ []) ∷ [] else []

abbrev pub multiplex_lines : Segment → List (List (List ℕ))
multiplex_lines segment = multiplex_if segment.name segment.multiplexed

abbrev pub pipe_fields : Wiring → Pipe → List (List ℕ)
pipe_fields w pipe = codes "pipe" ∷ virt_name w pipe.node ∷ decimal pipe.from ∷ decimal pipe.to ∷ rates_fields pipe.there ++ rates_fields pipe.back

-- classes, virtual nodes, fixed places in the order of virtual nodes, segments, multiplexed ones in the order of segments, pipes
abbrev pub wiring_lines : Wiring → List (List (List ℕ))
wiring_lines w =
    map class_fields w.classes ++ map (node_fields w) w.nodes ++ flat_map fix_lines w.nodes ++ map (link_fields w) w.segments
    ++ flat_map multiplex_lines w.segments ++ map (pipe_fields w) w.pipes

abbrev pub canonical_top : Wiring → List ℕ
canonical_top w = text_of (wiring_lines w)
