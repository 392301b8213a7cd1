-- The mapping of a node map.
use Rattle.std.proofs.Common.{◌≡◌, ◌<◌, ◌∙◌, List, [], length, map, get_or, true, Some, All, refl, sym, subst, arith}
use Rattle.std.specs.Prelude.{is_none}
use Rattle.std.proofs.lemmas.Option.{option_and_then_some, cond_some}
use Rattle.std.proofs.lemmas.List.Elements.{All-map, All-filter, All-contains}
use Rattle.std.proofs.lemmas.List.{length-map}
use Rattle.lab_base.proofs.Tests.{none_is}
use Rattle.phys_lab.specs.declared.free.Free.{Free}
use Rattle.phys_lab.specs.Labs.{Lab}
use Rattle.virt_topo.specs.declared.wiring.VirtNode.{VirtNode}
use Rattle.virt_topo.specs.declared.wiring.Wiring.{Wiring}
use Rattle.virt_topo.specs.declared.mapping.Mapping.{Mapping}
use Rattle.virt_topo.specs.Soundness.{IsSound}
use Rattle.lab_model.specs.Shapes.{Place, IsShaped, has_name, node_at}
use Rattle.lab_model.specs.Feasible.{violation, IsFeasible}
use Rattle.node_maps.specs.NodeMaps.{ArePlaces, is_candidate, lab_places, candidates_of, candidates, IsChoice, plugs_of, if_feasible, node_map}
use Rattle.node_maps.proofs.Places.{all_places}
use Rattle.node_maps.proofs.Shaped.{shaped}

-- the mapping has these places, the plugs that the rule gives, and is feasible
pub record IsMapped (lab : Lab) (free : Free) (w : Wiring) (places : List Place) (m : Mapping) : Type 0 where
  pub same_places : m.places ≡ places
  pub given : plugs_of lab w places ≡ Some m.plugs
  pub feasible : IsFeasible lab free w m

pub mapped_is : (lab : Lab) (free : Free) (w : Wiring) (places : List Place) (m : Mapping) → node_map lab free w places ≡ Some m → IsMapped lab free w places m
unfolding node_map
mapped_is lab free w places m e =
    option_and_then_some (λ plugs. if_feasible lab free w (record { places = places; plugs = plugs })) (plugs_of lab w places) m e
    (λ plugs given kept.
    let mapping : Mapping = record { places = places; plugs = plugs } in
    let both = cond_some (is_none (violation lab free w mapping)) mapping m kept in
    let P : Mapping → Type 0 = λ x. IsMapped lab free w places x in
    subst P both.1 (record { same_places = refl; given = given; feasible = none_is (violation lab free w mapping) both.0 }))

pub mapped_shaped : (lab : Lab) (free : Free) (w : Wiring) (places : List Place) (m : Mapping) → IsSound w → length places ≡ length w.nodes
    → ArePlaces lab places → node_map lab free w places ≡ Some m → IsShaped lab w m
mapped_shaped lab free w places m sound placed are e =
    let is = mapped_is lab free w places m e in
    let P : List Place → Type 0 = λ ps. IsShaped lab w (record { places = ps; plugs = m.plugs }) in
    subst P (sym is.same_places) (shaped lab w places m.plugs sound placed are is.given)

-- a choice of candidates has a place of the lab for each virtual node
pub record IsWithin (lab : Lab) (w : Wiring) (places : List Place) : Type 0 where
  pub placed : length places ≡ length w.nodes
  pub are : ArePlaces lab places

-- what holds of the lab's places holds of the places of a choice
each_of : (On : Place → Type 0) (lab : Lab) (free : Free) (w : Wiring) (places : List Place) → All On (lab_places lab) → IsChoice (candidates lab free w) places → All On places
unfolding candidates
each_of On lab free w places all choice =
    let of : VirtNode → List Place = λ v. candidates_of lab free w v in
    let each : All (λ c. All On c) (map of w.nodes) =
    All-map (λ c. All On c) of w.nodes (λ k d lt. All-filter (λ p. is_candidate lab free w (get_or w.nodes k d) p) On (lab_places lab) all) in
    λ k d lt.
    let here : k < length (map of w.nodes) = omega (arith, choice.one_each) in
    All-contains On _ _ (each k [] here) (choice.among k d here)

pub choice_within : (lab : Lab) (free : Free) (w : Wiring) (places : List Place) → IsChoice (candidates lab free w) places → IsWithin lab w places
unfolding candidates
choice_within lab free w places choice =
    let of : VirtNode → List Place = λ v. candidates_of lab free w v in
    let all = all_places lab in
    record {
      placed = choice.one_each ∙ length-map w.nodes of;
      are = record {
        in_nodes = each_of (λ p. p.0.0 < length lab.nodes) lab free w places all.in_nodes choice;
        of_node = each_of (λ p. has_name (node_at lab p.0).types p.1 ≡ true) lab free w places all.of_node choice;
      };
    }

-- there is a list of candidates for each virtual node
pub candidates_count : (lab : Lab) (free : Free) (w : Wiring) → length (candidates lab free w) ≡ length w.nodes
unfolding candidates
candidates_count lab free w = let of : VirtNode → List Place = λ v. candidates_of lab free w v in length-map w.nodes of
