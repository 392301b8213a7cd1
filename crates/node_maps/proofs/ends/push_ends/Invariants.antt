use Rattle.std.proofs.Common.{◌≡◌, ◌++◌, map, take}
use Rattle.node_maps.specs.NodeMaps.{segment_end}
use Rattle.node_maps.proofs.ends.push_ends.Given as goal

abbrev pub invariant-loop-end : goal.invariant-loop-end
invariant-loop-end l = l.listed.items ≡ l.initial.listed.items ++ map (segment_end l.number l.segment) (take l.end-index l.end-items)
