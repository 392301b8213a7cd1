-- The places of a lab.
use Rattle.std.proofs.Common.{◌≡◌, ◌≤◌, ◌<◌, ◌+◌, ◌*◌, ◌∷◌, [], ◌++◌, ◌∙◌, ℕ, true, List, length, drop, get_or, map, All, ap, sym, suc, arith}
use Rattle.std.proofs.lemmas.List.{length-append, length-map}
use Rattle.std.proofs.lemmas.List.Elements.{All-append, All-map}
use Rattle.lab_base.specs.Names.{same_name}
use Rattle.lab_base.proofs.Bytes.{bytes_self}
use Rattle.lab_base.proofs.Lists.{item_at}
use Rattle.lab_base.proofs.Members.{any_has, Has-get_or}
use Rattle.phys_lab.specs.declared.limits.TheConstants.{MAX_LAB_NODES, MAX_NODE_TYPES}
use Rattle.phys_lab.specs.declared.parts.Node.{Node}
use Rattle.phys_lab.specs.Kept.{IsLab}
use Rattle.phys_lab.specs.Labs.{Lab}
use Rattle.lab_model.specs.Shapes.{Place, node_at, no_node, has_name}
use Rattle.node_maps.specs.NodeMaps.{places_from, lab_places, ArePlaces}

pub places_step : (xs : List Node) (i : ℕ) (x : Node) → i < length xs → x ≡ get_or xs i x
    → places_from i (drop i xs) ≡ map (λ t. (record { 0 = i }, t.0)) x.types ++ places_from (i + 1) (drop (i + 1) xs)
places_step xs i x h is = ap (places_from i) (item_at xs i x h is)

-- a type of a node is a type of it
own_type : (types : List (List ℕ × ℕ)) (k : ℕ) (d : List ℕ × ℕ) → k < length types → has_name types (get_or types k d).0 ≡ true
own_type types k d lt = any_has (λ p. same_name p.0 (get_or types k d).0) types (get_or types k d) (Has-get_or types k d lt) (bytes_self (get_or types k d).0)

-- each place is on one of the nodes
within : (n m : ℕ) (xs : List Node) → n + length xs ≤ m → All (λ (p : Place). p.0.0 < m) (places_from n xs)
within n m [] h = λ k d lt. absurd (omega arith)
within n m (x ∷ xs) h =
    let here : n < m = omega arith in
    All-append (λ (p : Place). p.0.0 < m) (map (λ t. (record { 0 = n }, t.0)) x.types) (places_from (n + 1) xs)
    (All-map (λ (p : Place). p.0.0 < m) (λ t. (record { 0 = n }, t.0)) x.types (λ k d lt. here))
    (within (n + 1) m xs (omega arith))

-- each type is one of its node's, where the nodes stand in the lab from number n on
typed : (lab : Lab) (n : ℕ) (xs : List Node) → ((k : ℕ) → k < length xs → get_or lab.nodes (n + k) no_node ≡ get_or xs k no_node)
    → All (λ (p : Place). has_name (node_at lab p.0).types p.1 ≡ true) (places_from n xs)
typed lab n [] at = λ k d lt. absurd (omega arith)
typed lab n (x ∷ xs) at =
    let Is : Place → Type 0 = λ p. has_name (node_at lab p.0).types p.1 ≡ true in
    let none : n + 0 ≡ n = omega arith in
    let here : get_or lab.nodes n no_node ≡ x = ap (λ (k : ℕ). get_or lab.nodes k no_node) (sym none) ∙ at 0 (omega arith) in
    All-append Is (map (λ t. (record { 0 = n }, t.0)) x.types) (places_from (n + 1) xs)
    (All-map Is (λ t. (record { 0 = n }, t.0)) x.types (λ k d lt. ap (λ (y : Node). has_name y.types (get_or x.types k d).0) here ∙ own_type x.types k d lt))
    (typed lab (n + 1) xs (λ k lt. let next : (n + 1) + k ≡ n + suc k = omega arith in ap (λ (j : ℕ). get_or lab.nodes j no_node) next ∙ at (suc k) (omega arith)))

pub all_places : (lab : Lab) → ArePlaces lab (lab_places lab)
all_places lab = record {
  in_nodes = within 0 (length lab.nodes) lab.nodes (omega arith);
  of_node = typed lab 0 lab.nodes (λ k lt. let same : 0 + k ≡ k = omega arith in ap (λ (j : ℕ). get_or lab.nodes j no_node) same);
}

-- at most so many places for each of these nodes as it has types
few_from : (n : ℕ) (xs : List Node) → ((k : ℕ) → k < length xs → length (get_or xs k no_node).types ≤ MAX_NODE_TYPES)
    → length (places_from n xs) ≤ length xs * MAX_NODE_TYPES
few_from n [] few = omega arith
few_from n (x ∷ xs) few =
    let here = few 0 (omega arith) in
    let rest = few_from (n + 1) xs (λ k lt. few (suc k) (omega (arith, lt))) in
    let place : List ℕ × ℕ → Place = λ t. (record { 0 = n }, t.0) in
    omega (arith, here, rest, length-append (map place x.types) (places_from (n + 1) xs), length-map x.types place)

pub few_places : (lab : Lab) → IsLab lab → length (lab_places lab) ≤ MAX_LAB_NODES * MAX_NODE_TYPES
few_places lab is =
    let few = few_from 0 lab.nodes (λ k lt. (is.nodes (get_or lab.nodes k no_node) (Has-get_or lab.nodes k no_node lt)).few_types) in
    omega (arith, few, is.few_nodes)
