-- The tables that the reader of a top text keeps beside the wiring so far, and its judgement of a line.
use Rattle.std.specs.Prelude.{◌≡◌, ◌<◌, ◌==◌, ◌&&◌, ◌||◌, ◌+◌, ◌++◌, ℕ, Bool, false, not, List, [], ◌∷◌, length, map, replicate, slice_index_or, Option, Some, None, Result, Ok, Err, if◌then◌else◌}
use Rattle.std.specs.List.{flat_map, list_any}
use Rattle.lab_base.specs.Names.{same_name}
use Rattle.lab_base.specs.declared.fault.Kind.{Kind}
use Rattle.lab_base.specs.declared.fault.Kind.TheVariants as kinds
use Rattle.virt_topo.specs.declared.wiring.VirtEnd.{VirtEnd}
use Rattle.virt_topo.specs.declared.wiring.Segment.{Segment}
use Rattle.virt_topo.specs.declared.wiring.Pipe.{Pipe}
use Rattle.virt_topo.specs.declared.wiring.Wiring.{Wiring}
use Rattle.virt_topo.specs.Ends.{end_nodes, pipe_from, pipe_to}
use Rattle.virt_topo.specs.Owners.{at_ends}
use Rattle.virt_topo.specs.Soundness.{all_ends}
use Rattle.top_text.specs.Adding.{kept, segment_at}
use Rattle.top_text.specs.declared.judge.Tests.{Tests}
use Rattle.top_text.specs.declared.tables.Tables.{Tables}
use Rattle.top_text.specs.declared.so_far.SoFar.{SoFar}

-- KEYS

-- the addresses of ends, in their order
abbrev pub listed : Option ℕ → List ℕ
listed None = []
listed (Some address) = address ∷ []

abbrev pub addresses_of : List VirtEnd → List ℕ
addresses_of ends = flat_map (λ e. listed e.address) ends

-- an end by its virtual node, and by how many earlier ends that one has
abbrev pub same_end : ℕ × ℕ → ℕ × ℕ → Bool
same_end a b = (a.0 == b.0) && (a.1 == b.1)

-- the ends that a pipe joins
abbrev pub ends_of_pipe : Pipe → List (ℕ × ℕ)
ends_of_pipe p = (p.node, p.from) ∷ (p.node, p.to) ∷ []

-- SEGMENTS OF ENDS

-- by end the number of its segment, where the first segment has number n
abbrev pub numbers_from : ℕ → List Segment → List ℕ
numbers_from n [] = []
numbers_from n (s ∷ segments) = replicate (length s.ends) n ++ numbers_from (n + 1) segments

-- the segments of v's ends, in the order of these ends
abbrev pub segments_on : List Segment → ℕ → List ℕ
segments_on segments v = at_ends v (end_nodes segments) (numbers_from 0 segments)

-- the segment of an end; 65535, which names nothing, where there is no such end
abbrev pub segment_of_end : Wiring → ℕ → ℕ
segment_of_end w e = slice_index_or (numbers_from 0 w.segments) e 65535

-- a pipe joins an end of that segment
abbrev pub joins : Wiring → ℕ → Pipe → Bool
joins w s p = (segment_of_end w (pipe_from w p) == s) || (segment_of_end w (pipe_to w p) == s)

-- a pipe's ends are one, or of two owners, or one is of a multiplexed segment, by the segments of its virtual node's ends
abbrev pub is_apart : Wiring → List ℕ → Pipe → Bool
is_apart w on p =
    let a = segment_at w (slice_index_or on p.from 65535) in
    let b = segment_at w (slice_index_or on p.to 65535) in
    (p.from == p.to) || (not (same_name a.owner b.owner) || (a.multiplexed || b.multiplexed))

-- TABLES

-- each table has exactly what the wiring has
pub record AreTables (w : Wiring) (t : Tables) : Type 0 where
  pub classes : t.classes.keys ≡ map (λ c. c.name) w.classes
  pub nodes : t.nodes.keys ≡ map (λ v. v.name) w.nodes
  pub segments : t.segments.keys ≡ map (λ s. s.name) w.segments
  pub addresses : t.addresses.keys ≡ addresses_of (all_ends w.segments)
  pub piped : t.piped.keys ≡ flat_map ends_of_pipe w.pipes
  pub ends : t.ends ≡ length (end_nodes w.segments)
  -- by virtual node the segments of its ends
  pub each_node : length t.on_node.items ≡ length w.nodes
  pub on_node : (v : ℕ) → v < length w.nodes → slice_index_or t.on_node.items v [] ≡ segments_on w.segments v
  -- by segment whether a pipe joins an end of it
  pub each_segment : length t.joined.items ≡ length w.segments
  pub joined : (s : ℕ) → s < length w.segments → slice_index_or t.joined.items s false ≡ list_any (joins w s) w.pipes

-- the wiring so far has no fault, and its tables are there
pub record IsReading (so_far : SoFar) : Type 0 where
  pub kept : kept so_far.wiring ≡ Ok so_far.wiring
  pub tables : AreTables so_far.wiring so_far.tables

-- TESTS

-- what is tested, or the first fault that the tests say of it
abbrev pub judged : {X : Type 0} → Tests → X → Result X Kind
judged t x =
    if t.twice then Err kinds.Twice
    else if not t.known then Err kinds.Unknown
    else if t.same then Err kinds.Same
    else if t.bad_pipe then Err kinds.Pipe
    else if not t.within then Err kinds.Limit
    else Ok x
