use Rattle.std.proofs.Common.{◌≡◌, filter, map}
use Rattle.phys_lab.specs.Forests.{numbers}
use Rattle.node_maps.specs.Marked.{mark_of}
use Rattle.node_maps.proofs.marked.marked_at.Given as goal

abbrev pub invariant-loop-place : goal.invariant-loop-place
invariant-loop-place l = l.marked ≡ filter (mark_of (map (mark_of l.marks) l.numbers)) (numbers l.place)
