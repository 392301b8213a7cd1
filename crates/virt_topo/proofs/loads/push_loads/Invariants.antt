use Rattle.std.proofs.Common.{◌≡◌, ◌++◌}
use Rattle.std.specs.Prelude.{replicate}
use Rattle.virt_topo.specs.Loads.{load_of}
use Rattle.virt_topo.proofs.loads.push_loads.Given as goal

abbrev pub invariant-loop-end : goal.invariant-loop-end
invariant-loop-end l = l.listed.items ≡ l.initial.listed.items ++ replicate l._end (load_of l.number l.segment)
