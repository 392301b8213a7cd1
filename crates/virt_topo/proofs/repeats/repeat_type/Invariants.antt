use Rattle.std.proofs.Common.{◌≡◌, length}
use Rattle.lab_base.specs.Names.{same_name}
use Rattle.virt_topo.specs.Repeats.{stands_again}
use Rattle.virt_topo.proofs.repeats.repeat_type.Given as goal

abbrev pub invariant-loop-first : goal.invariant-loop-first
invariant-loop-first l = stands_again (same_name) l.rest ≡ stands_again (same_name) l.fn.types

abbrev pub decreases-loop-first : goal.decreases-loop-first
decreases-loop-first l = length l.rest
