-- The uses of a trunk by the segments of a mapping.
use Rattle.std.specs.Prelude.{◌-◌, ◌*◌, ℕ, min, Bool, ◌&&◌, nat_lt, List, [], length, slice_index_or, count_by, sum_by}
use Rattle.lab_base.specs.declared.ids.IfaceId.{IfaceId}
use Rattle.phys_lab.specs.declared.parts.Iface.{Iface}
use Rattle.phys_lab.specs.Labs.{Lab}
use Rattle.phys_lab.specs.Sides.{on_first_side}
use Rattle.virt_topo.specs.Cables.{Cable, cables}
use Rattle.virt_topo.specs.declared.wiring.Wiring.{Wiring}
use Rattle.virt_topo.specs.declared.mapping.Mapping.{Mapping}

abbrev pub no_iface : Iface
no_iface = record { link = []; node = record { 0 = 0 }; name = []; switch = record { 0 = 0 }; port = 0; kbps = 0 }

abbrev pub iface_at : Lab → IfaceId → Iface
iface_at lab i = slice_index_or lab.ifaces i.0 no_iface

-- the switch that an interface sits on
abbrev pub switch_of : Lab → IfaceId → ℕ
switch_of lab i = (iface_at lab i).switch.0

-- how many plugs of the cable are on the first side of trunk t
abbrev pub on_first : Lab → ℕ → Cable → ℕ
on_first lab t c = count_by (λ i. on_first_side lab.trunks t (switch_of lab i)) c.plugs

-- trunk t carries the cable
abbrev pub is_carried : Lab → ℕ → Cable → Bool
is_carried lab t c = nat_lt 0 (on_first lab t c) && nat_lt (on_first lab t c) (length c.plugs)

-- what the cables use of trunk t: each its kbps, times the lesser number of its plugs on a side
abbrev pub trunk_use : Lab → ℕ → List Cable → ℕ
trunk_use lab t cs = sum_by (λ c. min (on_first lab t c) (length c.plugs - on_first lab t c) * c.segment.kbps) cs

abbrev pub cables_of : Wiring → Mapping → List Cable
cables_of w m = cables w.segments m.plugs

-- what a mapping uses of trunk t
abbrev pub use_of : Lab → Wiring → Mapping → ℕ → ℕ
use_of lab w m t = trunk_use lab t (cables_of w m)
