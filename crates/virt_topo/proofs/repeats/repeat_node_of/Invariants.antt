use Rattle.std.proofs.Common.{◌≡◌, ◌==◌, length}
use Rattle.virt_topo.specs.Repeats.{stands_again}
use Rattle.virt_topo.proofs.repeats.repeat_node_of.Given as goal

abbrev pub invariant-loop-first : goal.invariant-loop-first
invariant-loop-first l = stands_again (λ a b. a.node == b.node) l.rest ≡ stands_again (λ a b. a.node == b.node) l.fn.ends

abbrev pub decreases-loop-first : goal.decreases-loop-first
decreases-loop-first l = length l.rest
