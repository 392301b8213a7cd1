-- Places of a lab that are candidates.
use Rattle.std.proofs.Common.{◌≡◌, ◌<◌, ◌↔◌, ◌∙◌, ◌∷◌, [], ℕ, zero, suc, List, length, filter, get_or, cond, true, false, Bool, Contains, ap, sym, subst, arith}
use Rattle.std.proofs.lemmas.List.{get_or-map}
use Rattle.std.proofs.lemmas.List.Elements.{All-contains, All-filter, All-contains_itself, filter_passes}
use Rattle.phys_lab.specs.declared.free.Free.{Free}
use Rattle.phys_lab.specs.Labs.{Lab}
use Rattle.virt_topo.specs.declared.wiring.VirtNode.{VirtNode}
use Rattle.virt_topo.specs.declared.wiring.Wiring.{Wiring}
use Rattle.virt_topo.specs.Wirings.{virt_at, no_virt}
use Rattle.lab_model.specs.Shapes.{Place}
use Rattle.node_maps.specs.NodeMaps.{is_candidate, lab_places, candidates_of, candidates}
use Rattle.node_maps.proofs.Places.{all_places}

-- what passes a test is among those that do
in_filter : {X : Type 0} (f : X → Bool) (xs : List X) (p : X) → Contains xs p → f p ≡ true → Contains (filter f xs) p
in_filter f [] p h is = absurd (let lt = h.1 in omega (arith, lt))
in_filter f (x ∷ xs) p h is = by (λ (c : Contains xs p). in_filter f xs p c is) h.0 h.1 h.2
  where
    later : (b : Bool) → Contains (filter f xs) p → Contains (cond b (x ∷ filter f xs) (filter f xs)) p
    later true c = (suc c.0, (let lt = c.1 in omega (arith, lt)), c.2)
    later false c = c

    by : (Contains xs p → Contains (filter f xs) p) → (k : ℕ) → k < length (x ∷ xs) → get_or (x ∷ xs) k p ≡ p → Contains (cond (f x) (x ∷ filter f xs) (filter f xs)) p
    by rest zero lt at = subst (λ (b : Bool). Contains (cond b (x ∷ filter f xs) (filter f xs)) p) (sym (ap f at ∙ is)) (0, omega arith, at)
    by rest (suc k) lt at = later (f x) (rest (k, omega (arith, lt), at))

pub of_virt : (lab : Lab) (free : Free) (w : Wiring) (v : ℕ) → v < length w.nodes → get_or (candidates lab free w) v [] ≡ candidates_of lab free w (virt_at w v)
unfolding candidates
of_virt lab free w v lt = get_or-map (λ (x : VirtNode). candidates_of lab free w x) w.nodes v no_virt [] lt

-- A PLACE OF THE LAB is among the candidates exactly where it passes their test
pub may_have : (lab : Lab) (free : Free) (w : Wiring) (v : ℕ) (p : Place) → v < length w.nodes → Contains (lab_places lab) p
    → (is_candidate lab free w (virt_at w v) p ≡ true) ↔ Contains (get_or (candidates lab free w) v []) p
may_have lab free w v p lt has =
    let test : Place → Bool = λ q. is_candidate lab free w (virt_at w v) q in
    let at = of_virt lab free w v lt in (
      λ is. subst (λ (l : List Place). Contains l p) (sym at) (in_filter test (lab_places lab) p has is),
      λ among. All-contains (λ q. test q ≡ true) (filter test (lab_places lab)) p (filter_passes test (lab_places lab)) (subst (λ (l : List Place). Contains l p) at among),
    )

-- a candidate is a place of the lab
pub listed_place : (lab : Lab) (free : Free) (w : Wiring) (v : ℕ) (p : Place) → v < length w.nodes → Contains (get_or (candidates lab free w) v []) p → Contains (lab_places lab) p
listed_place lab free w v p lt among =
    let test : Place → Bool = λ q. is_candidate lab free w (virt_at w v) q in
    All-contains (Contains (lab_places lab)) (filter test (lab_places lab)) p (All-filter test (Contains (lab_places lab)) (lab_places lab) (All-contains_itself (lab_places lab)))
    (subst (λ (l : List Place). Contains l p) (of_virt lab free w v lt) among)

-- a place of the lab is on a node of it
pub place_in : (lab : Lab) (p : Place) → Contains (lab_places lab) p → p.0.0 < length lab.nodes
place_in lab p has = All-contains (λ q. q.0.0 < length lab.nodes) (lab_places lab) p (all_places lab).in_nodes has
