use Rattle.std.proofs.Common.{◌≡◌, length}
use Rattle.virt_topo.specs.Repeats.{stands_again}
use Rattle.virt_topo.specs.Soundness.{shares_end}
use Rattle.virt_topo.proofs.pipes.repeat_end.Given as goal

abbrev pub invariant-loop-first : goal.invariant-loop-first
invariant-loop-first l = stands_again shares_end l.rest ≡ stands_again shares_end l.fn.pipes

abbrev pub decreases-loop-first : goal.decreases-loop-first
decreases-loop-first l = length l.rest
