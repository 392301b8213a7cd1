use Rattle.std.proofs.Common.{◌≡◌, ◌≤◌, ◌*◌, length, take}
use Rattle.std.specs.Prelude.{sum_by}
use Rattle.virt_topo.specs.declared.wiring.Segment.{Segment}
use Rattle.map_state.proofs.spare.most_of.Given as goal

abbrev pub invariant-loop-segment : goal.invariant-loop-segment
invariant-loop-segment l = record {
  so_far : l.most ≡ sum_by (λ (s : Segment). length s.ends * s.kbps) (take l.segment-index l.wiring.segments);
  small : l.most ≤ l.segment-index * (256 * 1000000000);
}
