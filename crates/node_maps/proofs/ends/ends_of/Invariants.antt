use Rattle.std.proofs.Common.{◌≡◌, ◌++◌, drop}
use Rattle.node_maps.specs.NodeMaps.{ends_from}
use Rattle.node_maps.proofs.ends.ends_of.Given as goal

abbrev pub invariant-loop-number : goal.invariant-loop-number
invariant-loop-number l = l.listed.items ++ ends_from l.number (drop l.number l.segments) ≡ ends_from 0 l.segments
