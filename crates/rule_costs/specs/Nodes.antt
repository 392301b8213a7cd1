-- Nodes in use by some places and not by others.
use Rattle.std.specs.Prelude.{ℕ, ◌+◌, List, [], ◌∷◌, ◌++◌, map, if◌then◌else◌}
use Rattle.std.specs.List.{list_any}
use Rattle.lab_model.specs.Shapes.{Place}
use Rattle.cost_rule.specs.Cost.{same_node}

-- by place its node
abbrev pub nodes_of : List Place → List ℕ
nodes_of places = map (λ p. p.0.0) places

-- how many different ones are among the first and not among the others
abbrev pub beyond : List ℕ → List ℕ → ℕ
beyond [] ys = 0
beyond (x ∷ xs) ys = if list_any (same_node x) (xs ++ ys) then beyond xs ys else beyond xs ys + 1
