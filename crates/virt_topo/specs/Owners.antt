-- The owners of the segments of a virtual node's ends.
use Rattle.std.specs.Prelude.{◌==◌, ℕ, List, [], ◌∷◌, if◌then◌else◌}
use Rattle.virt_topo.specs.Ends.{end_nodes, end_owners}
use Rattle.virt_topo.specs.declared.wiring.Segment.{Segment}

-- those of a list that stand where an end of virtual node v does
abbrev pub at_ends : {X : Type 0} → ℕ → List ℕ → List X → List X
at_ends v [] ys = []
at_ends v (x ∷ xs) [] = []
at_ends v (x ∷ xs) (y ∷ ys) = if x == v then y ∷ at_ends v xs ys else at_ends v xs ys

-- the owners of the segments of v's ends, in the order of these ends
abbrev pub owners_on : List Segment → ℕ → List (List ℕ)
owners_on segments v = at_ends v (end_nodes segments) (end_owners segments)
