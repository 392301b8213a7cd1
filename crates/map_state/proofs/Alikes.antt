-- Places that are changed, beside the others.
use Rattle.std.proofs.Common.{◌≡◌, ◌<◌, ◌∙◌, inl, inr, ℕ, List, [], length, map, get_or, All, Contains, true, ap, arith, get_or-set_other, get_or-set_same}
use Rattle.std.proofs.Math.ListN.{set}
use Rattle.std.proofs.lemmas.Bool.{cases_eq}
use Rattle.std.proofs.lemmas.List.{length-set, get_or_default}
use Rattle.std.proofs.lemmas.List.Elements.{All-contains, All-map, All-filter}
use Rattle.phys_lab.specs.declared.free.Free.{Free}
use Rattle.phys_lab.specs.Labs.{Lab}
use Rattle.virt_topo.specs.declared.wiring.VirtNode.{VirtNode}
use Rattle.virt_topo.specs.declared.wiring.Wiring.{Wiring}
use Rattle.lab_model.specs.Shapes.{Place, node_at, has_name}
use Rattle.lab_model.specs.Rules.{no_place}
use Rattle.node_maps.specs.NodeMaps.{candidates, candidates_of, is_candidate, lab_places, IsChoice}
use Rattle.node_maps.specs.Moved.{AlikeBut}
use Rattle.node_maps.proofs.MapLaws.{choice_within}
use Rattle.node_maps.proofs.Places.{all_places}

-- the node of a place
abbrev node : Place → ℕ
node p = p.0.0

-- what stands at a place of a list, and after it was changed
old_at : (places : List Place) (k v : ℕ) (d : Place) → k ≡ v → v < length places → get_or places k d ≡ get_or places v no_place
old_at places k v d is lt = ap (λ (j : ℕ). get_or places j d) is ∙ get_or_default places v d no_place lt

new_at : (places : List Place) (k v : ℕ) (p d : Place) → k ≡ v → v < length places → get_or (set places v p) k d ≡ p
new_at places k v p d is lt = ap (λ (j : ℕ). get_or (set places v p) j d) is ∙ get_or-set_same places v p d lt

pub alike_moved : (places : List Place) (v : ℕ) (p : Place) → v < length places → AlikeBut p.0.0 (get_or places v no_place).0.0 (set places v p) places
alike_moved places v p lt = record {
  count = length-set places v p;
  each = λ k d within. elim (cases_eq k v) [
    | inl is ↦ inr (inl (ap node (new_at places k v p d is lt)), inr (ap node (old_at places k v d is lt)))
    | inr apart ↦ inl (get_or-set_other places v k p d apart)
  ];
}

pub alike_exchanged : (places : List Place) (v u : ℕ) → v < length places → u < length places
    → AlikeBut (get_or places v no_place).0.0 (get_or places u no_place).0.0 (set (set places v (get_or places u no_place)) u (get_or places v no_place)) places
alike_exchanged places v u v_in u_in =
    let p = get_or places u no_place in
    let q = get_or places v no_place in
    let once = set places v p in
    let there : u < length once = omega (arith, u_in, length-set places v p) in
    record {
      count = length-set once u q ∙ length-set places v p;
      each = λ k d within. elim (cases_eq k u) [
        | inl is ↦ inr (inl (ap node (new_at once k u q d is there)), inr (ap node (old_at places k u d is u_in)))
        | inr not_u ↦ elim (cases_eq k v) [
          | inl is ↦ inr (inr (ap node (get_or-set_other once u k q d not_u ∙ new_at places k v p d is v_in)), inl (ap node (old_at places k v d is v_in)))
          | inr not_v ↦ inl (get_or-set_other once u k q d not_u ∙ get_or-set_other places v k p d not_v)
        ]
      ];
    }

-- each place of a choice is on a node of the lab
pub place_within : (lab : Lab) (free : Free) (w : Wiring) (places : List Place) (v : ℕ) → IsChoice (candidates lab free w) places → v < length (candidates lab free w)
    → (get_or places v no_place).0.0 < length lab.nodes
place_within lab free w places v choice lt =
    (choice_within lab free w places choice).are.in_nodes v no_place (omega (arith, lt, choice.one_each))

-- what holds of each place of the lab holds of each candidate
all_listed : (On : Place → Type 0) (lab : Lab) (free : Free) (w : Wiring) (v : ℕ) → v < length (candidates lab free w) → All On (lab_places lab) → All On (get_or (candidates lab free w) v [])
unfolding candidates
all_listed On lab free w v lt all =
    let of : VirtNode → List Place = λ x. candidates_of lab free w x in
    let each : All (λ c. All On c) (map of w.nodes) =
    All-map (λ c. All On c) of w.nodes (λ k d h. All-filter (λ q. is_candidate lab free w (get_or w.nodes k d) q) On (lab_places lab) all) in
    each v [] lt

-- a candidate of a virtual node is on a node of the lab, which has its type
pub candidate_place : (lab : Lab) (free : Free) (w : Wiring) (v : ℕ) (p : Place) → v < length (candidates lab free w) → Contains (get_or (candidates lab free w) v []) p
    → (p.0.0 < length lab.nodes) × (has_name (node_at lab p.0).types p.1 ≡ true)
candidate_place lab free w v p lt among =
    let own = get_or (candidates lab free w) v [] in
    let On : Place → Type 0 = λ q. q.0.0 < length lab.nodes in
    let Typed : Place → Type 0 = λ q. has_name (node_at lab q.0).types q.1 ≡ true in
    (All-contains On own p (all_listed On lab free w v lt (all_places lab).in_nodes) among, All-contains Typed own p (all_listed Typed lab free w v lt (all_places lab).of_node) among)

-- the same where each virtual node has a candidate
pub candidate_within : (lab : Lab) (free : Free) (w : Wiring) (places : List Place) (v : ℕ) (p : Place) → IsChoice (candidates lab free w) places → v < length places
    → Contains (get_or (candidates lab free w) v []) p → (p.0.0 < length lab.nodes) × (has_name (node_at lab p.0).types p.1 ≡ true)
candidate_within lab free w places v p choice lt among = candidate_place lab free w v p (omega (arith, lt, choice.one_each)) among
