use Rattle.std.proofs.Common.{◌≡◌, map, ◌++◌, take, drop}
use Rattle.ns_build.specs.Networks.{addressed}
use Rattle.ns_build.proofs.changes.address_ends.Given as goal

abbrev pub invariant-loop-end : goal.invariant-loop-end
invariant-loop-end l = l.end-items ≡ map (addressed l.node l.address) (take l.end-index l.fn.ends.items) ++ drop l.end-index l.fn.ends.items
