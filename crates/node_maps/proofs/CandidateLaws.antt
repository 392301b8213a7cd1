-- The candidates of a choice.
use Rattle.std.proofs.Common.{◌≡◌, ◌<◌, ◌∷◌, [], ℕ, List, length, map, filter, get_or, true, Bool, All, Contains, subst, arith}
use Rattle.std.proofs.lemmas.Bool.{cond_both}
use Rattle.std.proofs.lemmas.List.{length-map, get_or-map}
use Rattle.std.proofs.lemmas.List.Elements.{All-cons, All-contains}
use Rattle.phys_lab.specs.declared.free.Free.{Free}
use Rattle.phys_lab.specs.Labs.{Lab}
use Rattle.virt_topo.specs.declared.wiring.VirtNode.{VirtNode}
use Rattle.virt_topo.specs.declared.wiring.Wiring.{Wiring}
use Rattle.virt_topo.specs.Wirings.{virt_at, no_virt}
use Rattle.lab_model.specs.Shapes.{Place}
use Rattle.lab_model.specs.Rules.{no_place}
use Rattle.node_maps.specs.NodeMaps.{is_candidate, lab_places, candidates_of, candidates, IsChoice}

-- what a filter leaves passes its test
filter_passes : {X : Type 0} (p : X → Bool) (xs : List X) → All (λ x. p x ≡ true) (filter p xs)
filter_passes p [] = λ k d lt. absurd (omega (arith, lt))
filter_passes p (x ∷ xs) =
    let rest = filter_passes p xs in
    cond_both (p x) (x ∷ filter p xs) (filter p xs) (λ l. All (λ y. p y ≡ true) l) (λ yes. All-cons (λ y. p y ≡ true) x (filter p xs) yes rest) (λ no. rest)

pub choice_passes : (lab : Lab) (free : Free) (w : Wiring) (places : List Place) (v : ℕ) → IsChoice (candidates lab free w) places → v < length w.nodes
    → is_candidate lab free w (virt_at w v) (get_or places v no_place) ≡ true
unfolding candidates
choice_passes lab free w places v choice lt =
    let of : VirtNode → List Place = λ x. candidates_of lab free w x in
    let here : v < length (map of w.nodes) = omega (arith, lt, length-map w.nodes of) in
    let at : get_or (map of w.nodes) v [] ≡ of (virt_at w v) = get_or-map of w.nodes v no_virt [] lt in
    let Passes : Place → Type 0 = λ p. is_candidate lab free w (virt_at w v) p ≡ true in
    All-contains Passes (of (virt_at w v)) (get_or places v no_place) (filter_passes (λ p. is_candidate lab free w (virt_at w v) p) (lab_places lab))
    (subst (λ l. Contains l (get_or places v no_place)) at (choice.among v no_place here))
