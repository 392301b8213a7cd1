-- The parts of one link or LAN: delay nodes, segments and pipes.
use Rattle.std.specs.Prelude.{◌≡◌, ℕ, ◌+◌, ◌-◌, ◌/◌, ◌≤◌, Bool, true, not, ◌||◌, ◌&&◌, ◌==◌, nat_lt, nat_le, List, [], ◌∷◌, ◌++◌, length, map, codes, decimal, None, if◌then◌else◌}
use Rattle.std.specs.List.{enumerate_from, range_with_len}
use Rattle.lab_base.specs.Lists.{Has}
use Rattle.lab_base.specs.declared.rates.Rates.{Rates}
use Rattle.virt_topo.specs.declared.wiring.Asks.TheVariants.{Plain}
use Rattle.virt_topo.specs.declared.wiring.VirtNode.{VirtNode}
use Rattle.virt_topo.specs.declared.wiring.VirtEnd.{VirtEnd}
use Rattle.virt_topo.specs.declared.wiring.Segment.{Segment}
use Rattle.virt_topo.specs.declared.wiring.Pipe.{Pipe}
use Rattle.virt_topo.specs.declared.topo.AskedNode.{AskedNode}
use Rattle.virt_topo.specs.declared.topo.AskedLink.{AskedLink}
use Rattle.virt_topo.specs.Topos.{limits_link}

-- a bandwidth of an interface, in kbps, which needs no delay node
abbrev pub is_plain_speed : ℕ → Bool
is_plain_speed kbps = (kbps == 10000) || ((kbps == 100000) || (kbps == 1000000))

-- a link or LAN is shaped: by its delay in microseconds, its loss, or its bandwidth
abbrev pub is_shaped : Rates → Bool
is_shaped rates = nat_le 2000 rates.micros || (nat_lt 0 rates.ppm || not (is_plain_speed rates.kbps))

-- a link or LAN that can be expanded: derived names have at most 32 bytes
pub record IsExpandable (l : AskedLink) : Type 0 where
  pub short : length l.name ≤ 26
  pub limits : limits_link l ≡ true

abbrev pub AreExpandable : List AskedLink → Type 0
AreExpandable links = (l : AskedLink) → Has links l → IsExpandable l

-- VIRTUAL NODES

abbrev pub asked_node : AskedNode → VirtNode
asked_node n = record { name = n.name; asks = n.asks; desires = []; os = n.os; fixed = n.fixed }

abbrev pub delay_node : List ℕ → VirtNode
delay_node name = record { name = name; asks = Plain (codes "delay"); desires = []; os = codes "delay"; fixed = None }

-- the name of the delay node of member i of a LAN, from 1
abbrev pub member_node_name : AskedLink → ℕ → List ℕ
member_node_name l i = l.name ++ (codes ".d" ++ decimal i)

-- a shaped link has one delay node, a shaped LAN one for each member
abbrev pub delay_nodes : AskedLink → List VirtNode
delay_nodes l =
    if is_shaped l.rates
    then (if l.lan then map (λ i. delay_node (member_node_name l i)) (range_with_len 1 (length l.ends)) else delay_node (l.name ++ codes ".d") ∷ [])
    else []

-- how many these are
abbrev pub delays : AskedLink → ℕ
delays l = if is_shaped l.rates then (if l.lan then length l.ends else 1) else 0

-- SEGMENTS, WHERE `first` IS THE NUMBER OF THE FIRST OF THESE DELAY NODES

-- a segment of a link or LAN; those of a shaped one are not multiplexed
abbrev pub part : AskedLink → List ℕ → List VirtEnd → Segment
part l name ends = record { name = name; owner = l.name; kbps = l.rates.kbps; multiplexed = not (is_shaped l.rates) && l.multiplexed; ends = ends }

-- an end of a delay node has no address
abbrev pub delay_end : ℕ → VirtEnd
delay_end node = record { node = node; address = None }

-- between the two ends of a shaped link stands its delay node
abbrev pub link_segments : AskedLink → ℕ → List VirtEnd → List Segment
link_segments l first (a ∷ b ∷ []) =
    part l (l.name ++ codes ".0") (a ∷ delay_end first ∷ []) ∷ part l (l.name ++ codes ".1") (delay_end first ∷ b ∷ []) ∷ []
link_segments l first ends = []

-- between a member of a shaped LAN, with its place from 0, and its delay node
abbrev pub member_segment : AskedLink → ℕ → (ℕ × VirtEnd) → Segment
member_segment l first (i, e) = part l (l.name ++ (codes ".m" ++ decimal (i + 1))) (e ∷ delay_end (first + i) ∷ [])

-- after these stands the segment that joins the delay nodes
abbrev pub lan_segments : AskedLink → ℕ → List Segment
lan_segments l first = map (member_segment l first) (enumerate_from 0 l.ends) ++ part l l.name (map delay_end (range_with_len first (length l.ends))) ∷ []

abbrev pub segments_of : (ℕ × AskedLink) → List Segment
segments_of (first, l) =
    if is_shaped l.rates then (if l.lan then lan_segments l first else link_segments l first l.ends) else part l l.name l.ends ∷ []

-- PIPES, EACH FROM END 0 OF ITS DELAY NODE TO END 1

abbrev pub link_pipe : Rates → ℕ → Pipe
link_pipe rates node = record { node = node; from = 0; to = 1; there = rates; back = rates }

-- towards the LAN goes the floor of half the delay, and the whole loss
abbrev pub lan_pipe : Rates → ℕ → Pipe
lan_pipe rates node = record {
  node = node;
  from = 0;
  to = 1;
  there = record { kbps = rates.kbps; micros = rates.micros / 2; ppm = rates.ppm };
  back = record { kbps = rates.kbps; micros = rates.micros - rates.micros / 2; ppm = 0 };
}

abbrev pub pipes_of : (ℕ × AskedLink) → List Pipe
pipes_of (first, l) =
    if is_shaped l.rates then (if l.lan then map (lan_pipe l.rates) (range_with_len first (length l.ends)) else link_pipe l.rates first ∷ []) else []
