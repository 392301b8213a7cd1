-- A node map from its parts.
use Rattle.std.proofs.Common.{◌≡◌, ◌∙◌, List, length, true, Option, Some, None, refl, ap, sym, subst, arith}
use Rattle.std.specs.Prelude.{is_none}
use Rattle.std.specs.Option.{option_and_then}
use Rattle.std.proofs.lemmas.Bool.{and_parts, and_from, cond-true}
use Rattle.lab_base.specs.declared.ids.IfaceId.{IfaceId}
use Rattle.phys_lab.specs.declared.free.Free.{Free}
use Rattle.phys_lab.specs.Labs.{Lab}
use Rattle.virt_topo.specs.declared.violation.Broken.{Broken}
use Rattle.virt_topo.specs.declared.violation.Broken.TheVariants as broken
use Rattle.virt_topo.specs.declared.wiring.Wiring.{Wiring}
use Rattle.virt_topo.specs.declared.mapping.Mapping.{Mapping}
use Rattle.virt_topo.specs.Soundness.{IsSound}
use Rattle.lab_model.specs.Shapes.{Place}
use Rattle.lab_model.specs.Rules.{keeps_f1, keeps_f6, keeps_f7, keeps_f8}
use Rattle.lab_model.specs.Feasible.{AllPass, violation, Kept}
use Rattle.lab_model.proofs.FeasibleLaws.{kept_from}
use Rattle.lab_model.proofs.FirstViolation.{none_found}
use Rattle.node_maps.specs.NodeMaps.{candidates, IsChoice, plugs_of, if_feasible, node_map}
use Rattle.node_maps.specs.Moved.{may_share, has_class_type}
use Rattle.node_maps.proofs.CandidateLaws.{choice_passes}
use Rattle.node_maps.proofs.EndLists.{same_length}
use Rattle.node_maps.proofs.MapLaws.{mapped_is, choice_within}
use Rattle.node_maps.proofs.PlugLaws.{rule_keeps_f5}
use Rattle.node_maps.proofs.Shaped.{shaped}

-- what is left to ask of a choice of candidates with the plugs that the rule gives: F2, F3's words on classes, F6, F7 and F8
pub record KeepsAll (lab : Lab) (free : Free) (w : Wiring) (places : List Place) (plugs : List IfaceId) : Type 0 where
  pub given : plugs_of lab w places ≡ Some plugs
  pub shared : AllPass (length lab.nodes) (may_share lab w places)
  pub typed : AllPass (length w.nodes) (has_class_type w places)
  pub room : AllPass (length lab.trunks) (keeps_f6 lab free w (record { places = places; plugs = plugs }))
  pub joined : AllPass (length w.segments) (keeps_f7 lab w (record { places = places; plugs = plugs }))
  pub ids : keeps_f8 free w ≡ true

-- all rules are kept
each_kept : (lab : Lab) (free : Free) (w : Wiring) (places : List Place) (plugs : List IfaceId) → IsSound w → IsChoice (candidates lab free w) places → KeepsAll lab free w places plugs
    → (rule : Broken) → Kept lab w (record { places = places; plugs = plugs }) (keeps_f1 free (record { places = places; plugs = plugs })) (keeps_f6 lab free w (record { places = places; plugs = plugs })) (keeps_f8 free w) rule
each_kept lab free w places plugs sound choice parts broken.F1 = λ v lt. (and_parts _ _ (choice_passes lab free w places v choice lt)).0
each_kept lab free w places plugs sound choice parts broken.F2 = parts.shared
each_kept lab free w places plugs sound choice parts broken.F3 = λ v lt. and_from _ _ (and_parts _ _ (and_parts _ _ (choice_passes lab free w places v choice lt)).1).0 (parts.typed v lt)
each_kept lab free w places plugs sound choice parts broken.F4 = λ v lt. (and_parts _ _ (and_parts _ _ (choice_passes lab free w places v choice lt)).1).1
each_kept lab free w places plugs sound choice parts broken.F5 =
    let is = choice_within lab free w places choice in
    let of = shaped lab w places plugs sound is.placed is.are parts.given in
    rule_keeps_f5 lab w places plugs sound is.placed parts.given (of.plugs ∙ sym (same_length w.segments))
each_kept lab free w places plugs sound choice parts broken.F6 = parts.room
each_kept lab free w places plugs sound choice parts broken.F7 = parts.joined
each_kept lab free w places plugs sound choice parts broken.F8 = λ k lt. parts.ids

pub map_of_parts : (lab : Lab) (free : Free) (w : Wiring) (places : List Place) (plugs : List IfaceId) → IsSound w → IsChoice (candidates lab free w) places
    → KeepsAll lab free w places plugs → node_map lab free w places ≡ Some (record { places = places; plugs = plugs })
unfolding node_map
map_of_parts lab free w places plugs sound choice parts =
    let m : Mapping = record { places = places; plugs = plugs } in
    let none : violation lab free w m ≡ None = none_found lab w m (keeps_f1 free m) (keeps_f6 lab free w m) (keeps_f8 free w) (each_kept lab free w places plugs sound choice parts) in
    ap (λ o. option_and_then (λ x. if_feasible lab free w (record { places = places; plugs = x })) o) parts.given
    ∙ cond-true (is_none (violation lab free w m)) (Some m) None (ap is_none none)

-- and a node map has all parts
pub parts_of_map : (lab : Lab) (free : Free) (w : Wiring) (places : List Place) (m : Mapping) → node_map lab free w places ≡ Some m → KeepsAll lab free w places m.plugs
parts_of_map lab free w places m e =
    let is = mapped_is lab free w places m e in
    let kept = kept_from lab w m (keeps_f1 free m) (keeps_f6 lab free w m) (keeps_f8 free w) is.feasible in
    let whole : KeepsAll lab free w m.places m.plugs = record {
      given = ap (plugs_of lab w) is.same_places ∙ is.given;
      shared = kept broken.F2;
      typed = λ v lt. (and_parts _ _ (kept broken.F3 v lt)).1;
      room = kept broken.F6;
      joined = kept broken.F7;
      ids = kept broken.F8 0 (omega arith);
    } in
    subst (λ ps. KeepsAll lab free w ps m.plugs) is.same_places whole

-- where the parts can't be had there is none
pub no_map : (lab : Lab) (free : Free) (w : Wiring) (places : List Place) → ((plugs : List IfaceId) → KeepsAll lab free w places plugs → ⊥) → node_map lab free w places ≡ None
no_map lab free w places never = by (node_map lab free w places) refl
  where
    by : (o : Option Mapping) → node_map lab free w places ≡ o → node_map lab free w places ≡ None
    by None e = e
    by (Some m) e = absurd (never m.plugs (parts_of_map lab free w places m e))
