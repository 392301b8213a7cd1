-- The plugs of the interface rule are shaped.
use Rattle.std.proofs.Common.{◌≡◌, ◌<◌, ◌+◌, ◌∷◌, [], ◌++◌, ◌∙◌, ℕ, List, length, get_or, Option, Some, None, All, refl, ap, sym, suc, subst, length-append, arith}
use Rattle.std.specs.Option.{option_map, option_map_or}
use Rattle.std.specs.List.{slice_get}
use Rattle.std.proofs.lemmas.Option.{option_and_then_some, slice_get-get_or}
use Rattle.std.proofs.lemmas.List.Elements.{All-append, All-cons, All-map}
use Rattle.std.proofs.lemmas.List.{length-map}
use Rattle.std.proofs.lemmas.Bool.{cond_both}
use Rattle.lab_base.specs.declared.ids.IfaceId.{IfaceId}
use Rattle.lab_base.specs.declared.ids.NodeId.{NodeId}
use Rattle.phys_lab.specs.declared.parts.Iface.{Iface}
use Rattle.phys_lab.specs.Labs.{Lab}
use Rattle.virt_topo.specs.declared.wiring.Wiring.{Wiring}
use Rattle.virt_topo.specs.Soundness.{IsSound}
use Rattle.lab_model.specs.Shapes.{Place, IsShaped}
use Rattle.virt_topo.specs.declared.loads.Load.{Load}
use Rattle.lab_model.specs.Rules.{no_place, Laid}
use Rattle.node_maps.specs.declared.ends.End.{End}
use Rattle.node_maps.specs.NodeMaps.{ArePlaces, ends_of, load_of, may_take, first_iface, with_plug, laid_from, plugs_from, plugs_of}
use Rattle.node_maps.proofs.EndLists.{on_nodes, same_length}
use Rattle.node_maps.proofs.PlugLaws.{laying}

-- the interface given is one of those
first_within : (n : ℕ) (xs : List Iface) (had : List Laid) (node : NodeId) (load : Load) (i : IfaceId) → first_iface n xs had node load ≡ Some i → i.0 < n + length xs
first_within n [] had node load i e = absurd (cc e)
first_within n (x ∷ xs) had node load i e =
    cond_both (may_take n x had node load) (Some (record { 0 = n })) (first_iface (n + 1) xs had node load) (λ (o : Option IfaceId). o ≡ Some i → i.0 < n + length (x ∷ xs))
    (λ yes h. let same : n ≡ i.0 = ap (λ (j : IfaceId). j.0) (cc h) in omega arith)
    (λ none h. let later : i.0 < (n + 1) + length xs = first_within (n + 1) xs had node load i h in omega arith) e

-- these are so many interfaces of the lab
pub record Plugs (lab : Lab) (n : ℕ) (laid : List Laid) : Type 0 where
  pub count : length laid ≡ n
  pub within : All (λ x. x.1.0 < length lab.ifaces) laid

one_more : (lab : Lab) (e : End) (o : Option IfaceId) (n : ℕ) (had laid : List Laid) → ((i : IfaceId) → o ≡ Some i → i.0 < length lab.ifaces) → Plugs lab n had
    → option_map (λ i. had ++ (load_of e, i) ∷ []) o ≡ Some laid → Plugs lab (n + 1) laid
one_more lab e None n had laid within p eq = absurd (cc eq)
one_more lab e (Some i) n had laid within p eq =
    let same : had ++ (load_of e, i) ∷ [] ≡ laid = cc eq in
    subst (λ xs. Plugs lab (n + 1) xs) same (record {
      count = length-append had ((load_of e, i) ∷ []) ∙ ap (λ k. k + 1) p.count;
      within = All-append (λ (x : Laid). x.1.0 < length lab.ifaces) had ((load_of e, i) ∷ []) p.within (All-cons (λ (x : Laid). x.1.0 < length lab.ifaces) (load_of e, i) [] (within i refl) (λ k d lt. absurd (omega arith)));
    })

with_plug_within : (lab : Lab) (places : List Place) (e : End) (n : ℕ) (had laid : List Laid) → e.node < length places → Plugs lab n had
    → with_plug lab places e had ≡ Some laid → Plugs lab (n + 1) laid
with_plug_within lab places e n had laid placed p eq =
    let given : Place → Option (List Laid) = λ q. option_map (λ i. had ++ (load_of e, i) ∷ []) (first_iface 0 lab.ifaces had q.0 (load_of e)) in
    let q = get_or places e.node no_place in
    let there : slice_get places e.node ≡ Some q = slice_get-get_or places e.node no_place placed in
    one_more lab e (first_iface 0 lab.ifaces had q.0 (load_of e)) n had laid
    (λ i is. omega (arith, first_within 0 lab.ifaces had q.0 (load_of e) i is)) p
    (sym (ap (λ o. option_map_or given o (Some had)) there) ∙ eq)

pub laid_within : (lab : Lab) (places : List Place) (es : List End) (n : ℕ) (had laid : List Laid) → All (λ e. e.node < length places) es → Plugs lab n had
    → laid_from lab places es had ≡ Some laid → Plugs lab (n + length es) laid
laid_within lab places [] n had laid placed p e = subst (λ xs. Plugs lab (n + 0) xs) (cc e) (subst (λ k. Plugs lab k had) (omega arith) p)
laid_within lab places (e ∷ es) n had laid placed p eq =
    option_and_then_some (λ h. laid_from lab places es h) (with_plug lab places e had) laid eq
    (λ h first rest.
    let here : e.node < length places = placed 0 e (omega arith) in
    let after : All (λ d. d.node < length places) es = λ k d lt. placed (suc k) d (omega arith) in
    let q = laid_within lab places es (n + 1) h laid after (with_plug_within lab places e n had h here p first) rest in
    subst (λ k. Plugs lab k laid) (omega arith) q)

-- the plugs of ends are as many, and interfaces of the lab
pub record ArePlugs (lab : Lab) (n : ℕ) (plugs : List IfaceId) : Type 0 where
  pub count : length plugs ≡ n
  pub within : All (λ i. i.0 < length lab.ifaces) plugs

pub plugs_within : (lab : Lab) (places : List Place) (es : List End) (plugs : List IfaceId) → All (λ e. e.node < length places) es
    → plugs_from lab places es ≡ Some plugs → ArePlugs lab (length es) plugs
plugs_within lab places es plugs placed eq =
    let lay = laying lab places es plugs eq in
    let p = laid_within lab places es 0 [] lay.laid placed (record { count = refl; within = λ k d lt. absurd (omega arith) }) lay.from in
    subst (λ l. ArePlugs lab (length es) l) lay.is (record {
      count = length-map lay.laid (λ (x : Laid). x.1) ∙ p.count ∙ omega arith;
      within = All-map (λ (i : IfaceId). i.0 < length lab.ifaces) (λ (x : Laid). x.1) lay.laid p.within;
    })

pub shaped : (lab : Lab) (w : Wiring) (places : List Place) (plugs : List IfaceId) → IsSound w → length places ≡ length w.nodes
    → ArePlaces lab places → plugs_of lab w places ≡ Some plugs → IsShaped lab w (record { places = places; plugs = plugs })
shaped lab w places plugs sound placed are e =
    let on : All (λ (e : End). e.node < length places) (ends_of w.segments) = subst (λ n. All (λ (e : End). e.node < n) (ends_of w.segments)) (sym placed) (on_nodes w sound) in
    let p = plugs_within lab places (ends_of w.segments) plugs on e in
    record { places = placed; plugs = omega (arith, p.count, same_length w.segments); in_nodes = are.in_nodes; in_lab = p.within; of_node = are.of_node }
