-- One value at several places of a table.
use Rattle.std.specs.Prelude.{◌≡◌, ◌<◌, ◌≤◌, ℕ, ◌-◌, List, [], ◌++◌, length, map, fold, slice_set, All, Option, None, Some, IfSome}
use Rattle.lab_base.specs.declared.ids.NodeId.{NodeId}
use Rattle.lab_base.specs.declared.ids.VlanId.{VlanId}
use Rattle.claims.specs.declared.hold.Hold.{Hold}
use Rattle.claims.specs.declared.claim.Claim.{Claim}
use Rattle.claims.specs.declared.tables.Tables.{Tables}

abbrev pub marked : {X : Type 0} → X → List X → List ℕ → List X
marked v xs places = fold (λ ys place. slice_set ys place v) xs places

-- the places of nodes, and of VLAN ids in a table from a first one on
abbrev pub node_places : List NodeId → List ℕ
node_places nodes = map (λ n. n.0) nodes

abbrev pub id_places : ℕ → List VlanId → List ℕ
id_places first tags = map (λ tag. tag.0 - first) tags

abbrev pub places_in : ℕ → Option Hold → List ℕ
places_in first None = []
places_in first (Some h) = id_places first h.tags

abbrev pub claim_places : ℕ → Claim → List ℕ
claim_places first c = places_in first c.old ++ places_in first c.new

-- a side of a claim has a place in each table for each of its nodes, VLAN ids and uses
pub record SideFits (first nodes trunks ids : ℕ) (h : Hold) : Type 0 where
  pub in_nodes : All (λ n. n.0 < nodes) h.nodes
  pub in_ids : All (λ tag. (first ≤ tag.0) × (tag.0 - first < ids)) h.tags
  pub uses : length h.uses ≡ trunks

pub record FitsTables (first : ℕ) (tables : Tables) (c : Claim) : Type 0 where
  pub old : IfSome c.old (SideFits first (length tables.nodes.items) (length tables.used.items) (length tables.ids.items))
  pub new : IfSome c.new (SideFits first (length tables.nodes.items) (length tables.used.items) (length tables.ids.items))
