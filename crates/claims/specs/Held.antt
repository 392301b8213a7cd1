-- Claims by experiment, and what they leave.
use Rattle.std.specs.Prelude.{◌≡◌, ◌+◌, ◌-◌, ◌==◌, ◌<◌, ℕ, max, Bool, false, not, List, [], ◌∷◌, ◌++◌, length, map, filter, count_by, sum_by, slice_index_or, Option, None, Some, if◌then◌else◌}
use Rattle.std.specs.List.{list_any, range_with_len}
use Rattle.std.specs.Str.{bytes_eq}
use Rattle.phys_lab.specs.declared.free.Free.{Free}
use Rattle.claims.specs.declared.hold.Hold.{Hold}
use Rattle.claims.specs.declared.claim.Claim.{Claim}
use Rattle.claims.specs.declared.claim.Entry.{Entry}

-- WHAT CONTRACTS SEE OF CLAIMS: the range of VLAN ids, the number of nodes and the kbps of the trunks of the lab, and by experiment its claim
pub record Held : Type 0 where
  pub range : ℕ × ℕ
  pub nodes : ℕ
  pub kbps : List ℕ
  pub entries : List Entry

-- the nodes and the VLAN ids of a side of a claim, and what it uses of trunk t
abbrev pub nodes_in : Option Hold → List ℕ
nodes_in None = []
nodes_in (Some h) = map (λ n. n.0) h.nodes

abbrev pub tags_in : Option Hold → List ℕ
tags_in None = []
tags_in (Some h) = map (λ tag. tag.0) h.tags

abbrev pub use_in : ℕ → Option Hold → ℕ
use_in t None = 0
use_in t (Some h) = slice_index_or h.uses t 0

-- the same of a claim: of a trunk the greater of both uses
abbrev pub claim_nodes : Claim → List ℕ
claim_nodes c = nodes_in c.old ++ nodes_in c.new

abbrev pub claim_tags : Claim → List ℕ
claim_tags c = tags_in c.old ++ tags_in c.new

abbrev pub claim_use : ℕ → Claim → ℕ
claim_use t c = max (use_in t c.old) (use_in t c.new)

-- the number is one of these
abbrev pub is_in : ℕ → List ℕ → Bool
is_in n ns = list_any (λ m. m == n) ns

-- one of the claims has the node; the VLAN id; and what all use of trunk t
abbrev pub has_node : List Entry → ℕ → Bool
has_node es n = list_any (λ e. is_in n (claim_nodes e.claim)) es

abbrev pub has_id : List Entry → ℕ → Bool
has_id es id = list_any (λ e. is_in id (claim_tags e.claim)) es

abbrev pub use_by : ℕ → List Entry → ℕ
use_by t es = sum_by (λ e. claim_use t e.claim) es

-- the experiment whose claim has the number among those numbers of it
abbrev pub owner_of : (Claim → List ℕ) → List Entry → ℕ → Option (List ℕ)
owner_of numbers [] n = None
owner_of numbers (e ∷ es) n = if is_in n (numbers e.claim) then Some e.exp else owner_of numbers es n

-- the claim of an experiment, and the claims of the others
abbrev pub claim_named : List ℕ → List Entry → Option Claim
claim_named exp [] = None
claim_named exp (e ∷ es) = if bytes_eq e.exp exp then Some e.claim else claim_named exp es

abbrev pub others : List ℕ → List Entry → List Entry
others exp [] = []
others exp (e ∷ es) = if bytes_eq e.exp exp then es else e ∷ others exp es

-- the VLAN ids of a range, and those of them that no claim has
abbrev pub size_of : ℕ × ℕ → ℕ
size_of range = range.1 + 1 - range.0

abbrev pub ids : ℕ × ℕ → List ℕ
ids range = range_with_len range.0 (size_of range)

abbrev pub free_ids : Held → List ℕ
free_ids held = filter (λ id. not (has_id held.entries id)) (ids held.range)

-- how many nodes no claim has; how many nodes, and how many VLAN ids, a claim has
abbrev pub free_nodes : Held → ℕ
free_nodes held = count_by (λ n. not (has_node held.entries n)) (range_with_len 0 held.nodes)

abbrev pub nodes_of : ℕ → Option Claim → ℕ
nodes_of nodes None = 0
nodes_of nodes (Some c) = count_by (λ n. is_in n (claim_nodes c)) (range_with_len 0 nodes)

abbrev pub ids_of : ℕ × ℕ → Option Claim → ℕ
ids_of range None = 0
ids_of range (Some c) = count_by (λ id. is_in id (claim_tags c)) (ids range)

-- WHAT THE OTHERS LEAVE to an experiment: the nodes that none of them claims, by trunk the kbps that they don't claim, and the number of
-- VLAN ids that no claim has, its own included
pub record IsLeftTo (held : Held) (exp : List ℕ) (free : Free) : Type 0 where
  pub nodes : length free.nodes ≡ held.nodes
  pub trunks : length free.left ≡ length held.kbps
  pub unclaimed : (n : ℕ) → n < held.nodes → slice_index_or free.nodes n false ≡ not (has_node (others exp held.entries) n)
  pub room : (t : ℕ) → t < length held.kbps → slice_index_or free.left t 0 + use_by t (others exp held.entries) ≡ slice_index_or held.kbps t 0
  pub ids : free.vlans ≡ length (free_ids held)
