use Rattle.std.proofs.Common.{◌≡◌, false, drop, slice_index_or}
use Rattle.virt_topo.specs.Ends.{end_multiplexed}
use Rattle.virt_topo.proofs.pipes.multiplexed_among.Given as goal

abbrev pub invariant-loop-segment : goal.invariant-loop-segment
invariant-loop-segment l = slice_index_or (end_multiplexed (drop l.segment-index l.segments)) l.before false ≡ slice_index_or (end_multiplexed l.segments) l.end false
