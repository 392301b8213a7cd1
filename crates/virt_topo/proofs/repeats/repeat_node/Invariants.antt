use Rattle.std.proofs.Common.{◌≡◌, length}
use Rattle.lab_base.specs.Names.{same_name}
use Rattle.virt_topo.specs.Repeats.{stands_again}
use Rattle.virt_topo.proofs.repeats.repeat_node.Given as goal

abbrev pub invariant-loop-first : goal.invariant-loop-first
invariant-loop-first l = stands_again (λ a b. same_name a.name b.name) l.rest ≡ stands_again (λ a b. same_name a.name b.name) l.fn.nodes

abbrev pub decreases-loop-first : goal.decreases-loop-first
decreases-loop-first l = length l.rest
