-- Elements that a list has twice.
use Rattle.std.specs.Prelude.{Bool, false, ◌||◌, List, [], ◌∷◌}
use Rattle.std.specs.List.{list_any}

-- some element and a later one are the same
abbrev pub stands_again : {X : Type 0} → (X → X → Bool) → List X → Bool
stands_again same [] = false
stands_again same (x ∷ xs) = list_any (same x) xs || stands_again same xs
