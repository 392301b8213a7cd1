use Rattle.std.proofs.Common.{◌≡◌, take}
use Rattle.virt_topo.specs.Ends.{end_nodes}
use Rattle.solution_text.proofs.ends.end_nodes.Given as goal

abbrev pub invariant-loop-segment : goal.invariant-loop-segment
invariant-loop-segment l = l.listed ≡ end_nodes (take l.segment-index l.segments)
