use Rattle.std.proofs.Common.{◌≡◌, take}
use Rattle.virt_topo.proofs.copy.copy_segments.Given as goal

abbrev pub invariant-loop-segment : goal.invariant-loop-segment
invariant-loop-segment l = l.copy ≡ take l.segment-index l.segments
