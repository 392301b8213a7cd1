use Rattle.std.proofs.Common.{◌≡◌, length}
use Rattle.lab_base.specs.Names.{same_name}
use Rattle.virt_topo.specs.Repeats.{stands_again}
use Rattle.virt_topo.proofs.repeats.repeat_desire.Given as goal

abbrev pub invariant-loop-first : goal.invariant-loop-first
invariant-loop-first l = stands_again (λ a b. same_name a.0 b.0) l.rest ≡ stands_again (λ a b. same_name a.0 b.0) l.fn.desires

abbrev pub decreases-loop-first : goal.decreases-loop-first
decreases-loop-first l = length l.rest
