-- When a wiring is sound: the first fault that holds.
use Rattle.std.specs.Prelude.{◌≡◌, ◌%◌, ℕ, Bool, true, false, not, ◌||◌, ◌&&◌, ◌==◌, nat_lt, nat_le, List, [], length, slice_index_or, Option, Some, None, Result, Ok, Err, if◌then◌else◌}
use Rattle.std.specs.List.{list_all, list_any, flat_map}
use Rattle.lab_base.specs.declared.rates.Rates.{Rates}
use Rattle.lab_base.specs.Names.{same_name}
use Rattle.virt_topo.specs.declared.wiring.Asks.{Asks}
use Rattle.virt_topo.specs.declared.wiring.Asks.TheVariants.{Plain, Class as InClass}
use Rattle.virt_topo.specs.declared.wiring.Class.{Class}
use Rattle.virt_topo.specs.declared.wiring.VirtNode.{VirtNode}
use Rattle.virt_topo.specs.declared.wiring.VirtEnd.{VirtEnd}
use Rattle.virt_topo.specs.declared.wiring.Segment.{Segment}
use Rattle.virt_topo.specs.declared.wiring.Pipe.{Pipe}
use Rattle.virt_topo.specs.declared.wiring.Wiring.{Wiring}
use Rattle.virt_topo.specs.declared.fault.WiringFault.{WiringFault}
use Rattle.virt_topo.specs.declared.fault.WiringFault.TheVariants as faults
use Rattle.virt_topo.specs.Ends.{end_nodes, end_owners, end_multiplexed, end_number, pipe_from, pipe_to}
use Rattle.virt_topo.specs.Repeats.{stands_again}

abbrev pub is_between : ℕ → ℕ → ℕ → Bool
is_between least most n = nat_le least n && nat_le n most

-- LIMITS

-- the last number of an address is 1 to 254
abbrev pub is_address : Option ℕ → Bool
is_address None = true
is_address (Some address) = is_between 1 254 (address % 256)

abbrev pub is_speed : ℕ → Bool
is_speed kbps = is_between 1 1000000000 kbps

abbrev pub are_rates : Rates → Bool
are_rates rates = is_speed rates.kbps && (nat_le rates.micros 10000000 && nat_le rates.ppm 1000000)

abbrev pub limits_class : Class → Bool
limits_class c = nat_le c.weight 1000000 && is_between 1 8 (length c.types)

abbrev pub limits_node : VirtNode → Bool
limits_node v = nat_le (length v.desires) 8 && list_all (λ d. nat_le d.1 1000000) v.desires

abbrev pub limits_segment : Segment → Bool
limits_segment s = is_speed s.kbps && (is_between 2 256 (length s.ends) && list_all (λ e. is_address e.address) s.ends)

abbrev pub limits_pipe : Pipe → Bool
limits_pipe p = are_rates p.there && are_rates p.back

-- the wiring keeps the limits
abbrev pub keeps_limits : Wiring → Bool
keeps_limits w =
    nat_le (length w.classes) 64
    && (nat_le (length w.nodes) 256
    && (nat_le (length w.segments) 512
    && (nat_le (length (end_nodes w.segments)) 4096
    && (list_all limits_class w.classes
    && (list_all limits_node w.nodes
    && (list_all limits_segment w.segments
    && list_all limits_pipe w.pipes))))))

-- WHAT NUMBERS NAME

abbrev pub knows_class : Wiring → Asks → Bool
knows_class w (Plain type) = true
knows_class w (InClass c) = nat_lt c (length w.classes)

abbrev pub knows_node : Wiring → ℕ → Bool
knows_node w v = nat_lt v (length w.nodes)

-- the number of the end that has k earlier ends of virtual node v
abbrev pub end_if : ℕ → ℕ → Option ℕ
end_if ends n = if nat_lt n ends then Some n else None

abbrev pub end_of : Wiring → ℕ → ℕ → Option ℕ
end_of w v k = end_if (length (end_nodes w.segments)) (end_number (end_nodes w.segments) v k)

abbrev pub is_end : Wiring → ℕ → ℕ → Bool
is_end w v k = nat_lt (end_number (end_nodes w.segments) v k) (length (end_nodes w.segments))

abbrev pub knows_pipe : Wiring → Pipe → Bool
knows_pipe w p = knows_node w p.node && (is_end w p.node p.from && is_end w p.node p.to)

-- each number names something
abbrev pub knows_all : Wiring → Bool
knows_all w =
    list_all (λ v. knows_class w v.asks) w.nodes
    && (list_all (λ s. list_all (λ e. knows_node w e.node) s.ends) w.segments
    && list_all (knows_pipe w) w.pipes)

-- WHAT IS GIVEN AGAIN

abbrev pub same_some : Option ℕ → Option ℕ → Bool
same_some (Some a) (Some b) = a == b
same_some a b = false

abbrev pub same_address : VirtEnd → VirtEnd → Bool
same_address a b = same_some a.address b.address

abbrev pub all_ends : List Segment → List VirtEnd
all_ends segments = flat_map (λ s. s.ends) segments

-- a virtual node asks for a type that has the name of a class
abbrev pub asks_class_name : List Class → Asks → Bool
asks_class_name classes (Plain type) = list_any (λ c. same_name c.name type) classes
asks_class_name classes (InClass c) = false

abbrev pub has_twice : Wiring → Bool
has_twice w =
    stands_again (λ a b. same_name a.name b.name) w.classes
    || (stands_again (λ a b. same_name a.name b.name) w.nodes
    || (stands_again (λ a b. same_name a.name b.name) w.segments
    || (list_any (λ c. stands_again same_name c.types) w.classes
    || (list_any (λ v. stands_again (λ a b. same_name a.0 b.0) v.desires) w.nodes
    || (stands_again same_address (all_ends w.segments)
    || list_any (λ v. asks_class_name w.classes v.asks) w.nodes)))))

-- a segment names a virtual node twice
abbrev pub has_same : Wiring → Bool
has_same w = list_any (λ s. stands_again (λ a b. a.node == b.node) s.ends) w.segments

-- PIPES

-- the owner of the segment that an end is of
abbrev pub owner_at : Wiring → ℕ → List ℕ
owner_at w e = slice_index_or (end_owners w.segments) e []

-- the segment that an end is of is multiplexed
abbrev pub multiplexed_at : Wiring → ℕ → Bool
multiplexed_at w e = slice_index_or (end_multiplexed w.segments) e false

-- the ends of a pipe are one, or their segments have two owners, or one of these is multiplexed
abbrev pub is_bad_pipe : Wiring → Pipe → Bool
is_bad_pipe w p =
    (p.from == p.to)
    || (not (same_name (owner_at w (pipe_from w p)) (owner_at w (pipe_to w p)))
    || (multiplexed_at w (pipe_from w p) || multiplexed_at w (pipe_to w p)))

-- two pipes have an end in common
abbrev pub shares_end : Pipe → Pipe → Bool
shares_end p q = (p.node == q.node) && ((p.from == q.from) || ((p.from == q.to) || ((p.to == q.from) || (p.to == q.to))))

abbrev pub has_bad_pipe : Wiring → Bool
has_bad_pipe w = list_any (is_bad_pipe w) w.pipes || stands_again shares_end w.pipes

-- THE FIRST FAULT OF A WIRING
abbrev pub wiring_fault : Wiring → Option WiringFault
wiring_fault w =
    if not (keeps_limits w) then Some faults.Limit
    else if not (knows_all w) then Some faults.Unknown
    else if has_twice w then Some faults.Twice
    else if has_same w then Some faults.Same
    else if has_bad_pipe w then Some faults.Pipe
    else if length w.nodes == 0 then Some faults.Empty
    else None

-- a wiring without a fault
abbrev pub IsSound : Wiring → Type 0
IsSound w = wiring_fault w ≡ None

-- a call answers its first fault
abbrev pub Answers : {X E : Type 0} → Result X E → Option E → Type 0
Answers (Ok x) fault = fault ≡ None
Answers (Err e) fault = fault ≡ Some e
