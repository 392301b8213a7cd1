-- Networks as NS files ask for them.
use Rattle.std.specs.Prelude.{◌≡◌, ◌≤◌, ℕ, Bool, true, false, ◌&&◌, ◌||◌, ◌==◌, nat_lt, List, ◌∷◌, ◌++◌, length, codes, decimal, if◌then◌else◌}
use Rattle.std.specs.List.{list_all, list_any}
use Rattle.lab_base.specs.Lists.{Has}
use Rattle.lab_base.specs.Names.{same_name}
use Rattle.virt_topo.specs.declared.wiring.Asks.{Asks}
use Rattle.virt_topo.specs.declared.wiring.Asks.TheVariants.{Plain, Class as InClass}
use Rattle.virt_topo.specs.declared.wiring.Class.{Class}
use Rattle.virt_topo.specs.declared.topo.AskedNode.{AskedNode}
use Rattle.virt_topo.specs.declared.topo.AskedLink.{AskedLink}
use Rattle.virt_topo.specs.Repeats.{stands_again}
use Rattle.virt_topo.specs.Soundness.{is_between, is_address, are_rates, limits_class}

-- nodes, links and LANs, and classes
pub record Topo : Type 0 where
  pub nodes : List AskedNode
  pub links : List AskedLink
  pub classes : List Class

-- NAMES

-- a letter, a digit or `_`
abbrev pub is_word_byte : ℕ → Bool
is_word_byte b = is_between 97 122 b || (is_between 65 90 b || (is_between 48 57 b || (b == 95)))

abbrev pub IsWord : List ℕ → Type 0
IsWord bytes = (1 ≤ length bytes) × (list_all is_word_byte bytes ≡ true)

-- the same with `-`
abbrev pub IsIndex : List ℕ → Type 0
IsIndex bytes = (1 ≤ length bytes) × (list_all (λ b. is_word_byte b || (b == 45)) bytes ≡ true)

-- the name that a variable gives: `v`, and `v-i` for `v(i)`; or that of the k-th without a variable, after those bytes
pub data IsAskedName (numbered : List ℕ) (name : List ℕ) : Type 0 where
  plain : IsWord name → IsAskedName numbered name
  indexed : (v : List ℕ) (i : List ℕ) → IsWord v → IsIndex i → name ≡ v ++ 45 ∷ i → IsAskedName numbered name
  numbered_one : (k : ℕ) → name ≡ numbered ++ decimal k → IsAskedName numbered name

pub record HasForm (numbered : List ℕ) (name : List ℕ) : Type 0 where
  pub short : length name ≤ 26
  pub asked : IsAskedName numbered name

-- LIMITS, AND WHAT NUMBERS NAME

-- a link has two ends, a LAN 2 to 254
abbrev pub most_ends : Bool → ℕ
most_ends lan = if lan then 254 else 2

abbrev pub limits_link : AskedLink → Bool
limits_link l = are_rates l.rates && (is_between 2 (most_ends l.lan) (length l.ends) && list_all (λ e. is_address e.address) l.ends)

abbrev pub knows_asked : Topo → Asks → Bool
knows_asked t (Plain type) = true
knows_asked t (InClass c) = nat_lt c (length t.classes)

-- a class may not be named as the type of a delay node, nor as a type that a node asks for
abbrev pub asks_type : List ℕ → Asks → Bool
asks_type name (Plain type) = same_name name type
asks_type name (InClass c) = false

abbrev pub is_type_name : Topo → List ℕ → Bool
is_type_name t name = same_name name (codes "delay") || list_any (λ n. asks_type name n.asks) t.nodes

-- WHAT EVERY NETWORK KEEPS
pub record IsTopo (t : Topo) : Type 0 where
  pub few_nodes : length t.nodes ≤ 256
  pub few_links : length t.links ≤ 512
  pub few_classes : length t.classes ≤ 64
  pub links : list_all limits_link t.links ≡ true
  pub classes : list_all limits_class t.classes ≡ true
  -- each number names something
  pub asks : list_all (λ n. knows_asked t n.asks) t.nodes ≡ true
  pub ends : list_all (λ l. list_all (λ e. nat_lt e.node (length t.nodes)) l.ends) t.links ≡ true
  -- names differ within their kind, and have their form
  pub nodes_differ : stands_again (λ a b. same_name a.name b.name) t.nodes ≡ false
  pub links_differ : stands_again (λ a b. same_name a.name b.name) t.links ≡ false
  pub classes_differ : stands_again (λ a b. same_name a.name b.name) t.classes ≡ false
  pub node_names : (n : AskedNode) → Has t.nodes n → HasForm (codes "tb.n") n.name
  pub link_names : (l : AskedLink) → Has t.links l → HasForm (codes "tb.l") l.name
  pub class_names : list_any (λ c. is_type_name t c.name) t.classes ≡ false
  -- the types of a class differ, and so do the nodes of a link or LAN
  pub types_differ : list_any (λ c. stands_again same_name c.types) t.classes ≡ false
  pub members_differ : list_any (λ l. stands_again (λ a b. a.node == b.node) l.ends) t.links ≡ false
