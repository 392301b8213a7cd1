use Rattle.std.proofs.Common.{◌≡◌, [], drop, slice_index_or}
use Rattle.virt_topo.specs.Ends.{end_owners}
use Rattle.virt_topo.proofs.pipes.owner_among.Given as goal

abbrev pub invariant-loop-segment : goal.invariant-loop-segment
invariant-loop-segment l = slice_index_or (end_owners (drop l.segment-index l.segments)) l.before [] ≡ slice_index_or (end_owners l.segments) l.end []
