-- From when on the nodes of a lab are left for a run, by the experiments that claim them.
use Rattle.std.specs.Prelude.{◌≡◌, ◌≤◌, ◌==◌, ◌⊎◌, ℕ, Bool, List, [], ◌∷◌, Option, None, Some, if◌then◌else◌}
use Rattle.std.specs.Option.{option_map}
use Rattle.std.specs.List.{list_any, flat_map, enumerate_from}
use Rattle.lab_base.specs.Lists.{listed}
use Rattle.lab_base.specs.Names.{same_name}
use Rattle.lab_base.specs.declared.ids.NodeId.{NodeId}
use Rattle.lab_ahead.specs.declared.times.Left.{Left}
use Rattle.lab_ahead.specs.declared.ends.End.{End}

-- when the run of an experiment ends, if the batch swapped it in
abbrev pub run_end : List End → List ℕ → Option ℕ
run_end [] exp = None
run_end (end ∷ ends) exp = if same_name end.exp exp then Some end.at else run_end ends exp

-- from when on a node is left that these experiments claim: at once where none does; from its run's end on where only one does, which the batch
-- swapped in
abbrev pub from_of : List End → List (List ℕ) → Option ℕ
from_of ends [] = Some 0
from_of ends (exp ∷ []) = run_end ends exp
from_of ends (exp ∷ (other ∷ exps)) = None

-- a virtual node is placed on the node
abbrev pub is_placed : List (NodeId × List ℕ) → NodeId → Bool
is_placed places node = list_any (λ place. place.0.0 == node.0) places

-- a node of the run's own places isn't left
abbrev pub left_of : List End → List (NodeId × List ℕ) → NodeId → List (List ℕ) → Option Left
left_of ends places node exps = if is_placed places node then None else option_map (λ from. record { node = node; from = from }) (from_of ends exps)

-- WHAT IS LEFT for a run with these places, where it is told of each node which experiments claim it
abbrev pub left_for : List (List (List ℕ)) → List End → List (NodeId × List ℕ) → List Left
left_for claimers ends places = flat_map (λ c. listed (left_of ends places (record { 0 = c.0 }) c.1)) (enumerate_from 0 claimers)

-- of a node: no experiment claims it, or one alone, which the batch swapped in and whose run has ended at that moment
abbrev pub IsLeftAt : List End → List (List ℕ) → ℕ → Type 0
IsLeftAt ends exps t = (exps ≡ []) ⊎ ((exp : List ℕ) × (end : ℕ) × (exps ≡ exp ∷ []) × (run_end ends exp ≡ Some end) × (end ≤ t))
