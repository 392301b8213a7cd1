use Rattle.std.proofs.Common.{◌≡◌, ◌∙◌, ◌<◌, ℕ, List, All, length, map, ap, sym, subst}
use Rattle.virt_topo.specs.declared.wiring.VirtNode.{VirtNode}
use Rattle.virt_topo.specs.Wirings.{virt_at}
use Rattle.lab_model.specs.Shapes.{Place}
use Rattle.node_maps.specs.NodeMaps.{candidates_among, candidates_of}
use Rattle.node_maps.specs.Kinds.{AreKinds, by_kind, listed}
use Rattle.node_maps.proofs.Places.{all_places}
use Rattle.node_maps.proofs.KindLaws.{candidates_by_kind}
use Rattle.node_maps.proofs.suited.candidates.Goals as goal

pub lists_of-requires-clause-places : goal.lists_of-requires-clause-places
lists_of-requires-clause-places c =
    let P : List Place → Type 0 = λ xs. All (λ (p : Place). p.0.0 < length c.args.lab.now.nodes) xs in
    subst P (sym (c.deref-2.ensures.value ∙ c.in_ok-places.ensures.places)) (all_places c.args.lab.now).in_nodes

pub returns : goal.returns
returns c =
    let lab = c.args.lab.now in
    let free = c.args.free.now in
    let w = c.args.wiring.now in
    let ones = c.in_ok-kinds.kinds.ones.items in
    let kinds = c.in_ok-kinds.kinds.kinds.items in
    let are : AreKinds w.nodes (length w.nodes) ones kinds = subst (λ (l : List VirtNode). AreKinds l (length l) ones kinds) c.as_slice.ensures c.in_ok-kinds.ensures in
    let places = c.deref-2.ensures.value ∙ c.in_ok-places.ensures.places in
    let lists : listed c.in_ok-places.places.items c.in_ok-lists.lists.items ≡ map (λ v. candidates_of lab free w (virt_at w v)) ones =
    ap (λ (l : List Place). listed l c.in_ok-lists.lists.items) (sym c.deref-2.ensures.value)
    ∙ c.in_ok-lists.ensures.places ∙ (λ j. map (λ (v : ℕ). candidates_among lab free w (places j) (virt_at w v)) (c.deref.ensures.value j)) in
    c.of_kinds.ensures ∙ ap (λ (l : List (List Place)). by_kind l kinds) lists ∙ candidates_by_kind lab free w ones kinds are
