use Rattle.std.proofs.Common.{◌≡◌, ◌<◌, ◌≤◌, ◌∙◌, ◌++◌, ◌∷◌, [], ◌==◌, List, true, Option, Some, None, get_or, All, length, refl, ap, sym, subst, arith}
use Rattle.std.specs.Prelude.{slice_get}
use Rattle.std.specs.List.{find}
use Rattle.std.specs.Option.{option_map, option_map_or}
use Rattle.std.proofs.lemmas.Bool.{and_parts}
use Rattle.std.proofs.lemmas.Option.{slice_get_read}
use Rattle.std.proofs.lemmas.List.{get_or_default}
use Rattle.lab_base.specs.declared.ids.IfaceId.{IfaceId}
use Rattle.phys_lab.specs.Labs.{Lab}
use Rattle.virt_topo.specs.declared.loads.Load.{Load}
use Rattle.lab_model.specs.Shapes.{Place}
use Rattle.lab_model.specs.Uses.{iface_at}
use Rattle.lab_model.specs.Rules.{Laid, loads_on, may_bear, no_place}
use Rattle.node_maps.specs.declared.ends.End.{End}
use Rattle.node_maps.specs.declared.index.NodeIface.{NodeIface}
use Rattle.node_maps.specs.NodeMaps.{load_of, may_take, first_iface, with_plug}
use Rattle.node_maps.specs.Indexed.{ifaces_of, serves}
use Rattle.node_maps.proofs.IndexLaws.{number_of, first_is, list_within, on_all}
use Rattle.node_maps.proofs.Bearing.{all_multiplexed, joined_all}
use Rattle.node_maps.proofs.PlugLaws.{adds}
use Rattle.node_maps.proofs.TableLaws.{marks_push}
use Rattle.node_maps.proofs.ifaces.Given.add.Goals as goal

-- where the virtual node is placed, its end has what the rule finds
placed : (lab : Lab) (places : List Place) (e : End) (had : List Laid) (p : Place) (o : Option IfaceId) → slice_get places e.node ≡ Some p
    → first_iface 0 lab.ifaces had p.0 (load_of e) ≡ o → with_plug lab places e had ≡ option_map (λ i. had ++ (load_of e, i) ∷ []) o
placed lab places e had p o at is =
    let given : Place → Option (List Laid) = λ q. option_map (λ i. had ++ (load_of e, i) ∷ []) (first_iface 0 lab.ifaces had q.0 (load_of e)) in
    ap (λ q. option_map_or given q (Some had)) at ∙ ap (option_map (λ i. had ++ (load_of e, i) ∷ [])) is

-- an interface that an end gets has multiplexed ends alone, where this one is
shared : (lab : Lab) (places : List Place) (e : End) (had : List Laid) (i : IfaceId) → e.node < length places → with_plug lab places e had ≡ Some (had ++ (load_of e, i) ∷ [])
    → first_iface 0 lab.ifaces had (get_or places e.node no_place).0 (load_of e) ≡ Some i → all_multiplexed (loads_on i.0 had) ≡ true
shared lab places e had i here eq first =
    let a = adds lab places e had (had ++ (load_of e, i) ∷ []) here eq in
    let same : i ≡ a.iface = cc (sym first ∙ a.first) in
    let may : may_take i.0 (iface_at lab i) had (get_or places e.node no_place).0 (load_of e) ≡ true = subst (λ (x : IfaceId). may_take x.0 (iface_at lab x) had (get_or places e.node no_place).0 (load_of e) ≡ true) (sym same) a.may in
    let bears = (and_parts ((iface_at lab i).node.0 == (get_or places e.node no_place).0.0) (may_bear (iface_at lab i).kbps (loads_on i.0 had) (load_of e)) may).1 in
    joined_all (loads_on i.0 had) (load_of e) (and_parts _ _ bears).0

pub first_free-requires-clause-used : goal.first_free-requires-clause-used
first_free-requires-clause-used c =
    let lab = c.args.lab.now in
    let index : get_or c.args.index.now c.in-Some.place.now.0.0 [] ≡ ifaces_of 0 lab.ifaces c.in-Some.place.now.0.0 =
    subst (λ (q : Place). get_or c.args.index.now q.0.0 [] ≡ ifaces_of 0 lab.ifaces q.0.0) (sym c.in-Some.ensures.lookup.1) (c.requires.index.each c.args.end.node c.in-Some.place.now c.in-Some.ensures.lookup.3.0) in
    let Are : List NodeIface → Type 0 = λ l. All (λ (x : NodeIface). x.id.0 < length c.deref.result.now) l in
    subst Are (sym c.of.ensures) (list_within lab c.args.index.now (length c.deref.result.now) c.in-Some.place.now.0.0 index (ap length c.deref.ensures.value ∙ c.requires.sized.used))

pub first_free-requires-clause-last : goal.first_free-requires-clause-last
first_free-requires-clause-last c =
    let lab = c.args.lab.now in
    let index : get_or c.args.index.now c.in-Some.place.now.0.0 [] ≡ ifaces_of 0 lab.ifaces c.in-Some.place.now.0.0 =
    subst (λ (q : Place). get_or c.args.index.now q.0.0 [] ≡ ifaces_of 0 lab.ifaces q.0.0) (sym c.in-Some.ensures.lookup.1) (c.requires.index.each c.args.end.node c.in-Some.place.now c.in-Some.ensures.lookup.3.0) in
    let Are : List NodeIface → Type 0 = λ l. All (λ (x : NodeIface). x.id.0 < length c.deref-2.result.now) l in
    subst Are (sym c.of.ensures) (list_within lab c.args.index.now (length c.deref-2.result.now) c.in-Some.place.now.0.0 index (ap length c.deref-2.ensures.value ∙ c.requires.sized.last))

pub returns-in_default-first_free-clause-adds : goal.returns-in_default-first_free-clause-adds
returns-in_default-first_free-clause-adds c = λ had marks next.
    let lab = c.args.lab.now in
    let e = c.args.end in
    let p = c.in-Some.place.now in
    let index : get_or c.args.index.now p.0.0 [] ≡ ifaces_of 0 lab.ifaces p.0.0 =
    subst (λ (q : Place). get_or c.args.index.now q.0.0 [] ≡ ifaces_of 0 lab.ifaces q.0.0) (sym c.in-Some.ensures.lookup.1) (c.requires.index.each c.args.end.node c.in-Some.place.now c.in-Some.ensures.lookup.3.0) in
    let found = c.in-Some.ensures.lookup in
    let at = slice_get_read c.args.places.now (length c.args.places.now) e.node p refl found.3.0 found.1 in
    let rule : number_of c.first_free.result ≡ first_iface 0 lab.ifaces had p.0 (load_of e) =
    ap number_of (c.first_free.ensures.first ∙ (λ j. find (λ x. serves (get_or (c.deref.ensures.value j) x.id.0 0) (get_or (c.deref-2.ensures.value j) x.id.0 0) x.kbps (load_of e)) (c.of.ensures j)))
    ∙ first_is lab c.args.index.now c.args.self.now had p.0 (load_of e) c.range-kept.ensures.lab index marks (record { some = marks.some; next = next.some; rising = next.rising }) in
    (placed lab c.args.places.now e had p None at (sym rule ∙ ap number_of c.in_default-first_free.is), marks)

pub returns-clause-adds : goal.returns-clause-adds
returns-clause-adds c = λ had marks next.
    let lab = c.args.lab.now in
    let e = c.args.end in
    let p = c.in-Some.place.now in
    let i = c.in-Some-first_free.iface.id in
    let index : get_or c.args.index.now p.0.0 [] ≡ ifaces_of 0 lab.ifaces p.0.0 =
    subst (λ (q : Place). get_or c.args.index.now q.0.0 [] ≡ ifaces_of 0 lab.ifaces q.0.0) (sym c.in-Some.ensures.lookup.1) (c.requires.index.each c.args.end.node c.in-Some.place.now c.in-Some.ensures.lookup.3.0) in
    let found = c.in-Some.ensures.lookup in
    let at = slice_get_read c.args.places.now (length c.args.places.now) e.node p refl found.3.0 found.1 in
    let rule : number_of c.first_free.result ≡ first_iface 0 lab.ifaces had p.0 (load_of e) =
    ap number_of (c.first_free.ensures.first ∙ (λ j. find (λ x. serves (get_or (c.deref.ensures.value j) x.id.0 0) (get_or (c.deref-2.ensures.value j) x.id.0 0) x.kbps (load_of e)) (c.of.ensures j)))
    ∙ first_is lab c.args.index.now c.args.self.now had p.0 (load_of e) c.range-kept.ensures.lab index marks (record { some = marks.some; next = next.some; rising = next.rising }) in
    let first : first_iface 0 lab.ifaces had p.0 (load_of e) ≡ Some i = sym rule ∙ ap number_of c.in-Some-first_free.is in
    let is : with_plug lab c.args.places.now e had ≡ Some (had ++ (load_of e, i) ∷ []) = placed lab c.args.places.now e had p (Some i) at first in
    let there : get_or c.args.places.now e.node no_place ≡ p = get_or_default c.args.places.now e.node no_place p found.3.0 ∙ sym found.1 in
    let all = shared lab c.args.places.now e had i found.3.0 is (ap (λ (q : Place). first_iface 0 lab.ifaces had q.0 (load_of e)) there ∙ first) in (
      had ++ (load_of e, i) ∷ [],
      is,
      marks_push lab c.args.self.now c.note.new.self had (load_of e) i (record {
        marks = marks;
        within = omega (arith, c.in-Some-first_free.ensures.within, ap length c.deref.ensures.value, c.requires.sized.used);
        some = next.some;
        rising = on_all (λ (y : Load). y.segment ≤ e.segment) i.0 had next.rising;
        shares = λ h. all;
        plugs = c.in_ok-note.ensures.plugs;
        used = c.in_ok-note.ensures.used;
        last = c.in_ok-note.ensures.last;
      }),
    )
