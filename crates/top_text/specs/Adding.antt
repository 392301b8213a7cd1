-- The wiring so far with a line of a top text added, or the line's fault.
use Rattle.std.specs.Prelude.{◌+◌, ℕ, false, true, not, ◌==◌, List, [], ◌∷◌, ◌++◌, length, map, position, codes, slice_set, slice_index_or, Option, Some, None, is_some, Result, Ok, Err, if◌then◌else◌}
use Rattle.lab_base.specs.Texts.{lines_of}
use Rattle.lab_base.specs.declared.fault.Kind.{Kind}
use Rattle.lab_base.specs.declared.fault.Kind.TheVariants as kinds
use Rattle.lab_base.specs.declared.fault.TextFault.{TextFault}
use Rattle.lab_base.specs.Names.{same_name}
use Rattle.virt_topo.specs.Wirings.{virt_at}
use Rattle.line_text.specs.Reading.{and_then, read_from}
use Rattle.virt_topo.specs.Soundness.{keeps_limits, knows_all, has_twice, has_same, has_bad_pipe}
use Rattle.virt_topo.specs.declared.wiring.Asks.{Asks}
use Rattle.virt_topo.specs.declared.wiring.Asks.TheVariants.{Plain, Class as InClass}
use Rattle.virt_topo.specs.declared.wiring.Class.{Class}
use Rattle.virt_topo.specs.declared.wiring.VirtEnd.{VirtEnd}
use Rattle.virt_topo.specs.declared.wiring.Segment.{Segment}
use Rattle.virt_topo.specs.declared.wiring.Pipe.{Pipe}
use Rattle.virt_topo.specs.declared.wiring.Wiring.{Wiring}
use Rattle.top_text.specs.Lines.{End, NodeRead, LinkRead, PipeRead, class_line, node_line, fix_line, link_line, pipe_line, multiplex_line}

-- the wiring with a line more, or the first fault that it has with that line
abbrev pub kept : Wiring → Result Wiring Kind
kept w =
    if has_twice w then Err kinds.Twice
    else if not (knows_all w) then Err kinds.Unknown
    else if has_same w then Err kinds.Same
    else if has_bad_pipe w then Err kinds.Pipe
    else if not (keeps_limits w) then Err kinds.Limit
    else Ok w

abbrev pub with_class : Wiring → Class → Wiring
with_class w class = record w { classes = w.classes ++ class ∷ [] }

abbrev pub asks_at : List ℕ → Option ℕ → Asks
asks_at name None = Plain name
asks_at name (Some class) = InClass class

-- the class of a name, where an earlier line defines one, else the type
abbrev pub asks_of : Wiring → List ℕ → Asks
asks_of w name = asks_at name (position (λ c. same_name name c.name) w.classes)

abbrev pub with_node : Wiring → NodeRead → Wiring
with_node w (name, (type, (os, desires))) = record w { nodes = w.nodes ++ record { name = name; asks = asks_of w type; desires = desires; os = os; fixed = None } ∷ [] }

abbrev pub virt_named : Wiring → List ℕ → Option ℕ
virt_named w name = position (λ v. same_name name v.name) w.nodes

-- the number of the virtual node of a name; 65535, which names nothing, where there is none
abbrev pub number_or_none : Option ℕ → ℕ
number_or_none (Some n) = n
number_or_none None = 65535

abbrev pub virt_number : Wiring → List ℕ → ℕ
virt_number w name = number_or_none (virt_named w name)

abbrev pub end_at : Wiring → End → VirtEnd
end_at w end = record { node = virt_number w end.0; address = end.1 }

abbrev pub segment_of : Wiring → LinkRead → Segment
segment_of w (name, (owner, (kbps, ends))) = record { name = name; owner = owner; kbps = kbps; multiplexed = false; ends = map (end_at w) ends }

abbrev pub with_segment : Wiring → Segment → Wiring
with_segment w segment = record w { segments = w.segments ++ segment ∷ [] }

abbrev pub pipe_of : Wiring → PipeRead → Pipe
pipe_of w (name, ((from, to), (there, back))) = record { node = virt_number w name; from = from; to = to; there = there; back = back }

abbrev pub with_pipe : Wiring → Pipe → Wiring
with_pipe w pipe = record w { pipes = w.pipes ++ pipe ∷ [] }

abbrev pub with_place : Wiring → ℕ → List ℕ → Wiring
with_place w v place = record w { nodes = slice_set w.nodes v (record (virt_at w v) { fixed = Some place }) }

-- a second fixed place of a virtual node is `twice`
abbrev pub placed : Wiring → List ℕ → Option ℕ → Result Wiring Kind
placed w place None = Err kinds.Unknown
placed w place (Some v) = if is_some (virt_at w v).fixed then Err kinds.Twice else kept (with_place w v place)

abbrev pub no_segment : Segment
no_segment = record { name = []; owner = []; kbps = 0; multiplexed = false; ends = [] }

-- the segment of a number
abbrev pub segment_at : Wiring → ℕ → Segment
segment_at w s = slice_index_or w.segments s no_segment

abbrev pub segment_named : Wiring → List ℕ → Option ℕ
segment_named w name = position (λ s. same_name name s.name) w.segments

abbrev pub with_multiplexed : Wiring → ℕ → Wiring
with_multiplexed w s = record w { segments = slice_set w.segments s (record (segment_at w s) { multiplexed = true }) }

-- a segment that is multiplexed by an earlier line is `twice`; one that a pipe joins is `pipe`
abbrev pub marked : Wiring → Option ℕ → Result Wiring Kind
marked w None = Err kinds.Unknown
marked w (Some s) = if (segment_at w s).multiplexed then Err kinds.Twice else kept (with_multiplexed w s)

-- a line of segments or pipes by its keyword
abbrev pub wire_added : Wiring → List ℕ → List (List ℕ) → Result Wiring Kind
wire_added w keyword fields =
    if same_name keyword (codes "link") then and_then (link_line fields) (λ link. kept (with_segment w (segment_of w link)))
    else if same_name keyword (codes "pipe") then and_then (pipe_line fields) (λ pipe. kept (with_pipe w (pipe_of w pipe)))
    else if same_name keyword (codes "multiplex") then and_then (multiplex_line fields) (λ name. marked w (segment_named w name))
    else Err kinds.Word

-- a line of virtual nodes by its keyword
abbrev pub node_added : Wiring → List ℕ → List (List ℕ) → Result Wiring Kind
node_added w keyword fields =
    if same_name keyword (codes "node") then and_then (node_line fields) (λ node. kept (with_node w node))
    else if same_name keyword (codes "fix-node") then and_then (fix_line fields) (λ fix. placed w fix.1 (virt_named w fix.0))
    else wire_added w keyword fields

-- a line by its keyword
abbrev pub keyed : Wiring → List ℕ → List (List ℕ) → Result Wiring Kind
keyed w keyword fields =
    if same_name keyword (codes "make-vclass") then and_then (class_line fields) (λ class. kept (with_class w class))
    else node_added w keyword fields

abbrev pub added : Wiring → List (List ℕ) → Result Wiring Kind
added w [] = Err kinds.Word
added w (keyword ∷ fields) = keyed w keyword fields

abbrev pub start : Wiring
start = record { classes = []; nodes = []; segments = []; pipes = [] }

-- a wiring without a virtual node is `empty`, after the last line
abbrev pub finished : ℕ → Result Wiring TextFault → Result Wiring TextFault
finished line (Err fault) = Err fault
finished line (Ok w) = if length w.nodes == 0 then Err (record { line = line; kind = kinds.Empty }) else Ok w

-- the wiring of a text, or the fault of its first line that has one
abbrev pub wiring_of_text : List ℕ → Result Wiring TextFault
wiring_of_text text = finished (length (lines_of text) + 1) (read_from added 1 (Ok start) (lines_of text))
