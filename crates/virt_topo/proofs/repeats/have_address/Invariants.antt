use Rattle.std.proofs.Common.{◌≡◌, drop}
use Rattle.std.specs.List.{list_any}
use Rattle.virt_topo.specs.Soundness.{all_ends, same_address}
use Rattle.virt_topo.proofs.repeats.have_address.Given as goal

abbrev pub invariant-loop-segment : goal.invariant-loop-segment
invariant-loop-segment l = list_any (same_address l.end) (all_ends (drop l.segment-index l.segments)) ≡ list_any (same_address l.end) (all_ends l.segments)
