-- How nodes can be exchanged between needs. A table tells by need and by number among the nodes that are left whether the node there has the
-- need's type; owners tell by that number the need that the node is given to.
use Rattle.std.specs.Prelude.{◌≡◌, ◌≢◌, ◌<◌, ◌≤◌, ℕ, Bool, true, false, ◌==◌, nat_lt, List, [], ◌∷◌, length, map, count_by, slice_index_or, Option, Some, None, if◌then◌else◌}
use Rattle.lab_base.specs.declared.ids.NodeId.{NodeId}
use Rattle.phys_lab.specs.Labs.{Lab}
use Rattle.phys_lab.specs.Tables.{rows}
use Rattle.lab_ahead.specs.declared.fitting.Need.{Need}
use Rattle.lab_ahead.specs.declared.giving.Giving.{Giving}
use Rattle.lab_ahead.specs.declared.tree.Step.{Step}
use Rattle.lab_ahead.specs.declared.tree.SearchTree.{SearchTree}
use Rattle.lab_ahead.specs.declared.tree.Path.{Path}
use Rattle.lab_ahead.specs.declared.tree.Search.{Search}
use Rattle.lab_ahead.specs.declared.tree.Search.TheVariants as searches
use Rattle.lab_ahead.specs.Givings.{has_type, need_at}

abbrev pub table_of : Lab → List NodeId → List Need → List (List Bool)
table_of lab left needs = map (λ need. map (has_type lab need.kind) left) needs

-- a row for each of so many needs, with an entry for each of so many nodes
pub record IsTable (needs nodes : ℕ) (table : List (List Bool)) : Type 0 where
  pub many : length table ≡ needs
  pub wide : (n : ℕ) → n < length table → length (slice_index_or table n []) ≡ nodes

-- the node of number i has the type of need n
abbrev pub serves : List (List Bool) → ℕ → ℕ → Bool
serves table n i = slice_index_or (slice_index_or table n []) i false

abbrev pub owner_at : List (Option ℕ) → ℕ → Option ℕ
owner_at owners i = slice_index_or owners i None

abbrev pub is_of : ℕ → Option ℕ → Bool
is_of n None = false
is_of n (Some m) = m == n

-- how many nodes a need has
abbrev pub held : List (Option ℕ) → ℕ → ℕ
held owners n = count_by (is_of n) owners

-- the nodes that are given, each with the number of its need
abbrev pub given_of : List NodeId → List (Option ℕ) → List (NodeId × ℕ)
given_of (node ∷ left) (Some n ∷ owners) = (node, n) ∷ given_of left owners
given_of (node ∷ left) (None ∷ owners) = given_of left owners
given_of left owners = []

-- each node is given to a need of one of its types
abbrev pub AreServed : List (List Bool) → List (Option ℕ) → Type 0
AreServed table owners = (i n : ℕ) → owner_at owners i ≡ Some n → serves table n i ≡ true

-- SEARCH TREES: needs that are reached one after another, each but the first over a node that it has and that an earlier one can take

abbrev pub step_at : List Step → ℕ → Step
step_at steps k = slice_index_or steps k (record { need = 0; position = 0; parent = 0 })

abbrev pub Reached : List Step → ℕ → Type 0
Reached steps n = (k : ℕ) × (k < length steps) × ((step_at steps k).need ≡ n)

pub record IsStep (table : List (List Bool)) (owners : List (Option ℕ)) (steps : List Step) (k : ℕ) : Type 0 where
  pub back : (step_at steps k).parent < k
  pub owned : owner_at owners (step_at steps k).position ≡ Some (step_at steps k).need
  pub served : serves table (step_at steps (step_at steps k).parent).need (step_at steps k).position ≡ true

-- steps, with a mark at each need that they reach; they reach none twice
pub record AreSteps (table : List (List Bool)) (owners : List (Option ℕ)) (steps : List Step) (seen : List Bool) : Type 0 where
  pub some : 0 < length steps
  pub each : (k : ℕ) → 0 < k → k < length steps → IsStep table owners steps k
  pub differ : (j k : ℕ) → j < k → k < length steps → (step_at steps j).need ≢ (step_at steps k).need
  pub whole : length seen ≡ length table
  pub counted : count_by (λ mark. mark) seen ≡ length steps
  pub marked : (n : ℕ) → Reached steps n → slice_index_or seen n false ≡ true
  pub reached : (n : ℕ) → slice_index_or seen n false ≡ true → Reached steps n

abbrev pub IsTree : List (List Bool) → List (Option ℕ) → SearchTree → Type 0
IsTree table owners tree = AreSteps table owners tree.steps.items tree.seen.items

-- more steps after these
pub record Extends (old new : List Step) : Type 0 where
  pub longer : length old ≤ length new
  pub same : (k : ℕ) → k < length old → step_at new k ≡ step_at old k

-- the node of number i is given to a need that is reached
abbrev pub IsTaken : List (Option ℕ) → List Step → ℕ → Type 0
IsTaken owners steps i = (n : ℕ) × (owner_at owners i ≡ Some n) × Reached steps n

-- each node that the need of step k can take is
abbrev pub IsClosedAt : List (List Bool) → List (Option ℕ) → List Step → ℕ → Type 0
IsClosedAt table owners steps k = (i : ℕ) → serves table (step_at steps k).need i ≡ true → IsTaken owners steps i

-- the need of step k can take the node of number i, which is given to none
pub record IsFree (table : List (List Bool)) (owners : List (Option ℕ)) (steps : List Step) (k i : ℕ) : Type 0 where
  pub step : k < length steps
  pub inside : i < length owners
  pub free : owner_at owners i ≡ None
  pub served : serves table (step_at steps k).need i ≡ true

-- the tree began at this need and found a free node
pub record IsPath (table : List (List Bool)) (owners : List (Option ℕ)) (start : ℕ) (path : Path) : Type 0 where
  pub tree : IsTree table owners path.tree
  pub start_is : (step_at path.tree.steps.items 0).need ≡ start
  pub found : IsFree table owners path.tree.steps.items path.place path.position

-- the tree began at this need, and there is nothing more to reach
pub record IsStuck (table : List (List Bool)) (owners : List (Option ℕ)) (start : ℕ) (tree : SearchTree) : Type 0 where
  pub is_tree : IsTree table owners tree
  pub start_is : (step_at tree.steps.items 0).need ≡ start
  pub closed : (k : ℕ) → k < length tree.steps.items → IsClosedAt table owners tree.steps.items k

abbrev pub IsSearched : List (List Bool) → List (Option ℕ) → ℕ → Search → Type 0
IsSearched table owners start (searches.Free path) = IsPath table owners start path
IsSearched table owners start (searches.Stuck tree) = IsStuck table owners start tree

-- GIVINGS SO FAR

abbrev pub table_in : Giving → List (List Bool)
table_in giving = rows giving.rows.items

abbrev pub owners_in : Giving → List (Option ℕ)
owners_in giving = giving.owners.items

-- the table is as it was, and there are as many nodes
pub record KeepsNodes (old new : Giving) : Type 0 where
  pub table : new.rows ≡ old.rows
  pub nodes : length (owners_in new) ≡ length (owners_in old)

pub record IsWhole (giving : Giving) : Type 0 where
  pub wide : (n : ℕ) → n < length (table_in giving) → length (slice_index_or (table_in giving) n []) ≡ length (owners_in giving)
  pub served : AreServed (table_in giving) (owners_in giving)

-- each need below k has as many nodes as it counts, and no later one has any
abbrev pub AreMet : List Need → ℕ → List (Option ℕ) → Type 0
AreMet needs k owners = (n : ℕ) → held owners n ≡ (if nat_lt n k then (need_at needs n).count else 0)

-- a tree that is stuck, at a need that has fewer nodes than it counts, while none has more
pub record IsWanting (needs : List Need) (table : List (List Bool)) (owners : List (Option ℕ)) (tree : SearchTree) : Type 0 where
  pub start : ℕ
  pub stuck : IsStuck table owners start tree
  pub fewer : held owners start < (need_at needs start).count
  pub none_more : (n : ℕ) → held owners n ≤ (need_at needs n).count
