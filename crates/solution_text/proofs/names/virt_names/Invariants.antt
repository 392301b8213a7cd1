use Rattle.std.proofs.Common.{◌≡◌, map, take}
use Rattle.solution_text.proofs.names.virt_names.Given as goal

abbrev pub invariant-loop-node : goal.invariant-loop-node
invariant-loop-node l = l.names ≡ map (λ v. v.name) (take l.node-index l.nodes)
