-- Needs that fit the rest of a lab.
use Rattle.std.specs.Prelude.{◌≡◌, ◌<◌, ℕ, Bool, true, ◌==◌, List, [], map, length, count_by, sum_by, slice_index_or, if◌then◌else◌}
use Rattle.std.specs.List.{list_any}
use Rattle.std.specs.Ordering.{nat_cmp}
use Rattle.std.specs.List.Sorted.{IsStrictlySortedBy}
use Rattle.std.specs.Cmp.Lexicographic.{slice_cmp}
use Rattle.lab_base.specs.Lists.{Has, AllDiffer}
use Rattle.lab_base.specs.declared.ids.NodeId.{NodeId}
use Rattle.lab_base.specs.Names.{same_name}
use Rattle.phys_lab.specs.Labs.{Lab}
use Rattle.phys_lab.specs.Keys.{has_name}
use Rattle.lab_ahead.specs.declared.fitting.Need.{Need}
use Rattle.lab_ahead.specs.declared.fitting.Fit.{Fit}
use Rattle.lab_ahead.specs.declared.fitting.Fit.TheVariants.{Yes, No}

-- the types that a node of the lab can be, each with its count
abbrev pub types_at : Lab → NodeId → List (List ℕ × ℕ)
types_at lab node = slice_index_or (map (λ n. n.types) lab.nodes) node.0 []

abbrev pub has_type : Lab → List ℕ → NodeId → Bool
has_type lab kind node = list_any (λ t. same_name kind t.0) (types_at lab node)

abbrev pub need_at : List Need → ℕ → Need
need_at needs n = slice_index_or needs n (record { kind = []; count = 0 })

-- nodes that are left, each given once and to a need of one of its types, and to each need as many as it counts
pub record IsGiving (lab : Lab) (left : List NodeId) (needs : List Need) (given : List (NodeId × ℕ)) : Type 0 where
  pub once : AllDiffer (map (λ g. g.0) given)
  pub of_left : (g : NodeId × ℕ) → Has given g → Has left g.0
  pub of_need : (g : NodeId × ℕ) → Has given g → g.1 < length needs
  pub of_type : (g : NodeId × ℕ) → Has given g → has_type lab (need_at needs g.1).kind g.0 ≡ true
  pub enough : (n : ℕ) → n < length needs → count_by (λ g. g.1 == n) given ≡ (need_at needs n).count

-- there is such a giving
abbrev pub Fits : Lab → List NodeId → List Need → Type 0
Fits lab left needs = (given : List (NodeId × ℕ)) × IsGiving lab left needs given

-- how many nodes are needed of these types together
abbrev pub need_of : List Need → List (List ℕ) → ℕ
need_of needs kinds = sum_by (λ need. if has_name kinds need.kind then need.count else 0) needs

-- how many of the nodes have one of these types
abbrev pub has_one : Lab → List (List ℕ) → NodeId → Bool
has_one lab kinds node = list_any (λ kind. has_type lab kind node) kinds

abbrev pub have_of : Lab → List NodeId → List (List ℕ) → ℕ
have_of lab left kinds = count_by (has_one lab kinds) left

-- types, rising and without repeats, of which more nodes are needed together than there are
pub record IsShort (lab : Lab) (left : List NodeId) (needs : List Need) (kinds : List (List ℕ)) : Type 0 where
  pub rising : IsStrictlySortedBy (slice_cmp nat_cmp) kinds
  pub short : have_of lab left kinds < need_of needs kinds

-- a giving, or types that show that there is none
abbrev pub Shows : Lab → List NodeId → List Need → Fit → Type 0
Shows lab left needs (Yes given) = IsGiving lab left needs given
Shows lab left needs (No kinds) = IsShort lab left needs kinds

abbrev pub IsYes : Fit → Type 0
IsYes (Yes given) = Unit {0}
IsYes (No kinds) = ⊥
