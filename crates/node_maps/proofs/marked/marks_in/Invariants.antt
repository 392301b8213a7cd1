use Rattle.std.proofs.Common.{◌≡◌, take}
use Rattle.node_maps.specs.Marked.{marks_of}
use Rattle.node_maps.proofs.marked.marks_in.Given as goal

abbrev pub invariant-loop-place : goal.invariant-loop-place
invariant-loop-place l = l.marks ≡ marks_of l.nodes (take l.place-index l.listed)
