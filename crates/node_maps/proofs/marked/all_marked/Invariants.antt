use Rattle.std.proofs.Common.{◌≡◌, ℕ, List, map, take}
use Rattle.node_maps.specs.Marked.{mark_of, marked_numbers}
use Rattle.node_maps.proofs.marked.all_marked.Given as goal

abbrev pub invariant-loop-numbers : goal.invariant-loop-numbers
invariant-loop-numbers l = l.all.items ≡ map (λ (own : List ℕ). marked_numbers (map (mark_of l.marks) own)) (take l.numbers-index l.lists)
