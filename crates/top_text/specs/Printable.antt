-- The facts that types give of the parts of a wiring: names are names, and addresses have 32 bits.
use Rattle.std.specs.Prelude.{ℕ, Bool, true, ◌&&◌, nat_lt, List, Option, Some, None}
use Rattle.std.specs.List.{list_all}
use Rattle.lab_base.specs.Names.{is_name}
use Rattle.virt_topo.specs.declared.wiring.Asks.{Asks}
use Rattle.virt_topo.specs.declared.wiring.Asks.TheVariants.{Plain, Class as InClass}
use Rattle.virt_topo.specs.declared.wiring.Class.{Class}
use Rattle.virt_topo.specs.declared.wiring.VirtNode.{VirtNode}
use Rattle.virt_topo.specs.declared.wiring.Segment.{Segment}
use Rattle.virt_topo.specs.declared.wiring.Wiring.{Wiring}

abbrev pub named_class : Class → Bool
named_class c = is_name c.name && list_all is_name c.types

abbrev pub named_asks : Asks → Bool
named_asks (Plain type) = is_name type
named_asks (InClass class) = true

abbrev pub named_place : Option (List ℕ) → Bool
named_place None = true
named_place (Some place) = is_name place

-- but for the fixed place
abbrev pub named_node : VirtNode → Bool
named_node v = is_name v.name && (named_asks v.asks && (is_name v.os && list_all (λ d. is_name d.0) v.desires))

-- an address of 32 bits
abbrev pub is_address : Option ℕ → Bool
is_address None = true
is_address (Some address) = nat_lt address 4294967296

abbrev pub named_segment : Segment → Bool
named_segment s = is_name s.name && (is_name s.owner && list_all (λ e. is_address e.address) s.ends)

abbrev pub is_printable : Wiring → Bool
is_printable w =
    list_all named_class w.classes && (list_all named_node w.nodes && (list_all (λ v. named_place v.fixed) w.nodes && list_all named_segment w.segments))

-- the names of virtual nodes are names
abbrev pub are_named : List VirtNode → Bool
are_named nodes = list_all (λ v. is_name v.name) nodes
