-- The ends of a wiring, and the ends that a pipe joins.
use Rattle.std.specs.Prelude.{◌≡◌, ◌≢◌, ◌<◌, ◌+◌, ◌-◌, ◌==◌, ℕ, Bool, false, List, [], ◌∷◌, length, map, replicate, slice_index_or, if◌then◌else◌}
use Rattle.std.specs.List.{flat_map}
use Rattle.virt_topo.specs.declared.wiring.Segment.{Segment}
use Rattle.virt_topo.specs.declared.wiring.Pipe.{Pipe}
use Rattle.virt_topo.specs.declared.wiring.Wiring.{Wiring}

-- the virtual node of each end; the ends are ordered by segment, then by place in the segment
abbrev pub end_nodes : List Segment → List ℕ
end_nodes segments = flat_map (λ s. map (λ e. e.node) s.ends) segments

-- the owner of each end's segment, in the same order
abbrev pub end_owners : List Segment → List (List ℕ)
end_owners segments = flat_map (λ s. replicate (length s.ends) s.owner) segments

-- whether each end's segment is multiplexed, in the same order
abbrev pub end_multiplexed : List Segment → List Bool
end_multiplexed segments = flat_map (λ s. replicate (length s.ends) s.multiplexed) segments

-- the number, among all ends, of the end of virtual node v that has k earlier ends of v; the number of ends where there is none
abbrev pub end_number : List ℕ → ℕ → ℕ → ℕ
end_number [] v k = 0
end_number (x ∷ xs) v k = if x == v then (if k == 0 then 0 else end_number xs v (k - 1) + 1) else end_number xs v k + 1

-- the ends that a pipe joins
abbrev pub pipe_from : Wiring → Pipe → ℕ
pipe_from w p = end_number (end_nodes w.segments) p.node p.from

abbrev pub pipe_to : Wiring → Pipe → ℕ
pipe_to w p = end_number (end_nodes w.segments) p.node p.to

-- a pipe joins two ends, whose segments have one owner and are not multiplexed
pub record IsSoundPipe (w : Wiring) (p : Pipe) : Type 0 where
  pub from_end : pipe_from w p < length (end_nodes w.segments)
  pub to_end : pipe_to w p < length (end_nodes w.segments)
  pub differ : p.from ≢ p.to
  pub one_owner : slice_index_or (end_owners w.segments) (pipe_from w p) [] ≡ slice_index_or (end_owners w.segments) (pipe_to w p) []
  pub from_alone : slice_index_or (end_multiplexed w.segments) (pipe_from w p) false ≡ false
  pub to_alone : slice_index_or (end_multiplexed w.segments) (pipe_to w p) false ≡ false
