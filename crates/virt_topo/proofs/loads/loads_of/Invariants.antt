use Rattle.std.proofs.Common.{◌≡◌, ◌++◌, drop}
use Rattle.virt_topo.specs.Loads.{loads_from}
use Rattle.virt_topo.proofs.loads.loads_of.Given as goal

abbrev pub invariant-loop-number : goal.invariant-loop-number
invariant-loop-number l = l.listed.items ++ loads_from l.number (drop l.number l.segments) ≡ loads_from 0 l.segments
