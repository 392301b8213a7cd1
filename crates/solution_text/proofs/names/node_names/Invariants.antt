use Rattle.std.proofs.Common.{◌≡◌, map, take}
use Rattle.solution_text.proofs.names.node_names.Given as goal

abbrev pub invariant-loop-node : goal.invariant-loop-node
invariant-loop-node l = l.names ≡ map (λ n. n.name) (take l.node-index l.nodes)
