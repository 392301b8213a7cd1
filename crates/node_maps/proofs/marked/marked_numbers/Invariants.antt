use Rattle.std.proofs.Common.{◌≡◌, filter}
use Rattle.phys_lab.specs.Forests.{numbers}
use Rattle.node_maps.specs.Marked.{mark_of}
use Rattle.node_maps.proofs.marked.marked_numbers.Given as goal

abbrev pub invariant-loop-number : goal.invariant-loop-number
invariant-loop-number l = l.marked ≡ filter (mark_of l.marks) (numbers l.number)
