use Rattle.std.proofs.Common.{◌≡◌, ◌++◌, map, take}
use Rattle.feas.proofs.ends.push_nodes.Given as goal

abbrev pub invariant-loop-end : goal.invariant-loop-end
invariant-loop-end l = l.listed.items ≡ l.initial.listed.items ++ map (λ e. e.node) (take l.end-index l.ends)
