-- Parts of wirings, and a wiring that is mapped.
use Rattle.std.specs.Prelude.{ℕ, List, [], slice_index_or, None}
use Rattle.lab_base.specs.declared.ids.VlanId.{VlanId}
use Rattle.virt_topo.specs.declared.wiring.Asks.TheVariants.{Plain}
use Rattle.virt_topo.specs.declared.wiring.VirtNode.{VirtNode}
use Rattle.virt_topo.specs.declared.wiring.Wiring.{Wiring}
use Rattle.virt_topo.specs.declared.mapping.Mapping.{Mapping}
use Rattle.virt_topo.specs.declared.mapping.Mapped.{Mapped}

abbrev pub no_virt : VirtNode
no_virt = record { name = []; asks = Plain []; desires = []; os = []; fixed = None }

-- the virtual node of a number
abbrev pub virt_at : Wiring → ℕ → VirtNode
virt_at w v = slice_index_or w.nodes v no_virt

-- a wiring with its mapping and its VLAN ids
abbrev pub mapped : Wiring → Mapping → List VlanId → Mapped
mapped w m tags = record { wiring = w; mapping = m; tags = tags }
