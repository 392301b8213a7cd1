use Rattle.std.proofs.Common.{◌≡◌, length}
use Rattle.virt_topo.specs.Repeats.{stands_again}
use Rattle.virt_topo.specs.Soundness.{all_ends, same_address}
use Rattle.virt_topo.proofs.repeats.repeat_address.Given as goal

abbrev pub invariant-loop-first : goal.invariant-loop-first
invariant-loop-first l = stands_again same_address (all_ends l.rest) ≡ stands_again same_address (all_ends l.fn.segments)

abbrev pub decreases-loop-first : goal.decreases-loop-first
decreases-loop-first l = length l.rest
