use Rattle.std.proofs.Common.{◌≡◌, ◌++◌, map, take}
use Rattle.solution_text.proofs.ends.push_nodes.Given as goal

abbrev pub invariant-loop-end : goal.invariant-loop-end
invariant-loop-end l = l.listed ≡ l.initial.listed ++ map (λ e. e.node) (take l.end-index l.ends)
