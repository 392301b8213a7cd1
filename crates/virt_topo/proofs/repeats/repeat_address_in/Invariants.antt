use Rattle.std.proofs.Common.{◌≡◌, ◌++◌, length}
use Rattle.virt_topo.specs.Repeats.{stands_again}
use Rattle.virt_topo.specs.Soundness.{all_ends, same_address}
use Rattle.virt_topo.proofs.repeats.repeat_address_in.Given as goal

abbrev pub invariant-loop-first : goal.invariant-loop-first
invariant-loop-first l = stands_again same_address (l.rest ++ all_ends l.later) ≡ stands_again same_address (l.fn.ends ++ all_ends l.later)

abbrev pub decreases-loop-first : goal.decreases-loop-first
decreases-loop-first l = length l.rest
