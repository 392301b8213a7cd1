-- All node maps in candidate order, FirstFit, and the answers that are allowed.
use Rattle.std.specs.Prelude.{◌≡◌, ℕ, ◌*◌, ◌<◌, ◌≤◌, List, [], ◌∷◌, ◌++◌, length, map, Bool, ◌&&◌, Option, Some, None, option_and_then, is_some, if◌then◌else◌, All}
use Rattle.std.specs.List.{flat_map, filter_map, find}
use Rattle.phys_lab.specs.Labs.{Lab}
use Rattle.phys_lab.specs.declared.free.Free.{Free}
use Rattle.virt_topo.specs.declared.wiring.Wiring.{Wiring}
use Rattle.virt_topo.specs.declared.mapping.Mapping.{Mapping}
use Rattle.lab_model.specs.Shapes.{Place}
use Rattle.node_maps.specs.NodeMaps.{candidates, plugs_of, node_map}
use Rattle.node_maps.specs.Least.{IsFirstLeast}
use Rattle.node_maps.specs.Moved.{may_share}
use Rattle.map_anneal.specs.Sought.{Sought, choices, mapped, price, LocallyBest}
use Rattle.map_anneal.specs.Walk.{walk}
use Rattle.assign_core.specs.declared.exact.TheConstants.{MAX_CHOICES}
use Rattle.assign_core.specs.declared.whole.Solved.{Solved}
use Rattle.assign_core.specs.declared.whole.Solved.TheVariants.{Least, Local, None as NoMap, GaveUp}

-- each of the places with each of one more virtual node's candidates, the earlier places first
abbrev pub extended : List (List Place) → List Place → List (List Place)
extended maps c = flat_map (λ m. map (λ p. m ++ p ∷ []) c) maps

-- the choices of a candidate for each virtual node: by the first one's, then the second one's ..
abbrev pub all_choices : List (List Place) → List (List Place) → List (List Place)
all_choices maps [] = maps
all_choices maps (c ∷ cs) = all_choices (extended maps c) cs

-- how many there are: the product of the numbers of candidates
abbrev pub count : List (List Place) → ℕ
count [] = 1
count (c ∷ cs) = length c * count cs

-- the feasible node maps in candidate order
unfoldable pub node_maps : Sought → List Mapping
node_maps s = filter_map (λ places. mapped s places) (all_choices ([] ∷ []) (choices s))

-- the cheapest of these maps with its cost, the first among equals, or None where there are none
abbrev pub IsCheapestOf : Sought → List Mapping → Option (Mapping × ℕ) → Type 0
IsCheapestOf s maps None = maps ≡ []
IsCheapestOf s maps (Some best) = IsFirstLeast (price s) maps best.0 × (best.1 ≡ price s best.0)

-- the virtual nodes placed so far and one more: on its node they keep F2, as on the others before, and the interface rule
-- serves all their ends
abbrev pub fits_next : Lab → Wiring → List Place → Place → Bool
fits_next lab w places p = may_share lab w (places ++ p ∷ []) p.0.0 && is_some (plugs_of lab w (places ++ p ∷ []))

-- the place, where the next virtual node fits at it
abbrev pub if_fits : Lab → Wiring → List Place → Place → Option Place
if_fits lab w places p = if fits_next lab w places p then Some p else None

-- FirstFit: each further virtual node takes its first candidate that fits
abbrev pub first_fit_from : Lab → Wiring → List Place → List (List Place) → Option (List Place)
first_fit_from lab w places [] = Some places
first_fit_from lab w places (c ∷ cs) =
    option_and_then (λ p. first_fit_from lab w (places ++ p ∷ []) cs) (find (λ p. fits_next lab w places p) c)

-- the map of FirstFit, where it is feasible
unfoldable pub first_fit : Lab → Free → Wiring → Option Mapping
first_fit lab free w = option_and_then (λ places. node_map lab free w places) (first_fit_from lab w [] (candidates lab free w))

-- what holds of the mapping that was found, if there is one
abbrev pub IfFound : Solved → (Mapping → Type 0) → Type 0
IfFound (Least m c) Holds = Holds m
IfFound (Local m c) Holds = Holds m
IfFound NoMap Holds = Unit {0}
IfFound GaveUp Holds = Unit {0}

-- the answers that are allowed: with at most MAX_CHOICES choices of candidates the cheapest map, or none where there is none;
-- with more a locally best map that costs at most every map of the walk from FirstFit, or giving up where FirstFit isn't feasible
abbrev pub IsAllowed : Sought → ℕ → Solved → Type 0
IsAllowed s seed (Least m c) = (count (choices s) ≤ MAX_CHOICES) × IsFirstLeast (price s) (node_maps s) m × (c ≡ price s m)
IsAllowed s seed NoMap = (count (choices s) ≤ MAX_CHOICES) × (node_maps s ≡ [])
IsAllowed s seed (Local m c) = (start : Mapping) × (MAX_CHOICES < count (choices s)) × (first_fit s.lab s.free s.wiring ≡ Some start)
    × LocallyBest s m × All (λ x. price s m ≤ price s x) (walk s start seed) × (c ≡ price s m)
IsAllowed s seed GaveUp = (MAX_CHOICES < count (choices s)) × (first_fit s.lab s.free s.wiring ≡ None)
