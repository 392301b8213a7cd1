-- One element of a list is changed.
use Rattle.std.proofs.Common.{◌≡◌, ℕ, zero, suc, ◌+◌, ◌<◌, ◌≤◌, List, [], ◌∷◌, ◌++◌, length, map, take, drop, get_or, refl, sym, ap, subst, ◌∙◌, arith}
use Rattle.std.proofs.lemmas.List.Edits.{map_over_more}
use Rattle.std.proofs.Math.ListN.{set}
use Rattle.std.proofs.lemmas.List.{get_or_default}
use Rattle.ns_build.specs.declared.task.NodeChange.{NodeChange}
use Rattle.ns_build.specs.declared.task.LinkChange.{LinkChange}
use Rattle.virt_topo.specs.declared.topo.AskedNode.{AskedNode}
use Rattle.virt_topo.specs.declared.topo.AskedLink.{AskedLink}
use Rattle.ns_build.specs.Networks.{Network, changed_at, node_with, link_with, change_node, change_link}

-- the element there is written
pub changed-set : {X : Type 0} (f : X → X) (k : ℕ) (xs : List X) (x : X) → k < length xs → x ≡ get_or xs k x → changed_at f k xs ≡ set xs k (f x)
changed-set f k [] x lt is = absurd (omega arith)
changed-set f zero (y ∷ ys) x lt is = ap (λ (z : _). f z ∷ ys) (sym is)
changed-set f (suc k) (y ∷ ys) x lt is = ap (λ (l : List _). y ∷ l) (changed-set f k ys x (omega arith) is)

-- there is none
pub changed-none : {X : Type 0} (f : X → X) (k : ℕ) (xs : List X) → length xs ≤ k → changed_at f k xs ≡ xs
changed-none f k [] le = refl
changed-none f zero (y ∷ ys) le = absurd (omega arith)
changed-none f (suc k) (y ∷ ys) le = ap (λ (l : List _). y ∷ l) (changed-none f k ys (omega arith))

-- a loop that writes over each element, one element more
pub map_over_at : {X : Type 0} (f : X → X) (xs ys : List X) (i : ℕ) (d : X) → i < length xs → i < length ys → ys ≡ map f (take i xs) ++ drop i xs
    → set ys i (f (get_or ys i d)) ≡ map f (take (i + 1) xs) ++ drop (i + 1) xs
map_over_at f xs ys i d lt within was = map_over_more f xs ys i (get_or ys i d) lt was (get_or_default ys i d (get_or ys i d) within)

-- the network in which the node at an index is changed
pub node_changed : (n m : Network) (change : NodeChange) (index at : ℕ) (x y : AskedNode) → n ≡ m → at ≡ index → at < length n.nodes → x ≡ get_or n.nodes at x → y ≡ node_with change x
    → record n { nodes = set n.nodes at y } ≡ change_node m index change
node_changed n m change index at x y is same lt element new =
    ap (λ (v : AskedNode). record n { nodes = set n.nodes at v }) new
    ∙ ap (λ (l : List AskedNode). record n { nodes = l }) (sym (changed-set (node_with change) at n.nodes x lt element))
    ∙ ap (λ (p : ℕ). change_node n p change) same
    ∙ ap (λ (k : Network). change_node k index change) is

pub node_none : (n m : Network) (change : NodeChange) (index at : ℕ) → n ≡ m → at ≡ index → length n.nodes ≤ at → m ≡ change_node m index change
node_none n m change index at is same le =
    subst (λ (k : Network). k ≡ change_node k index change) is
    (subst (λ (p : ℕ). n ≡ change_node n p change) same (ap (λ (l : List AskedNode). record n { nodes = l }) (sym (changed-none (node_with change) at n.nodes le))))

-- the network in which the link or LAN at an index is changed
pub link_changed : (n m : Network) (change : LinkChange) (index : ℕ) (x y : AskedLink) → n ≡ m → index < length n.links → x ≡ get_or n.links index x → y ≡ link_with change x
    → record n { links = set n.links index y } ≡ change_link m index change
link_changed n m change index x y is lt element new =
    ap (λ (v : AskedLink). record n { links = set n.links index v }) new
    ∙ ap (λ (l : List AskedLink). record n { links = l }) (sym (changed-set (link_with change) index n.links x lt element))
    ∙ ap (λ (k : Network). change_link k index change) is

pub link_none : (n m : Network) (change : LinkChange) (index : ℕ) → n ≡ m → length n.links ≤ index → m ≡ change_link m index change
link_none n m change index is le =
    subst (λ (k : Network). k ≡ change_link k index change) is
    (ap (λ (l : List AskedLink). record n { links = l }) (sym (changed-none (link_with change) index n.links le)))
