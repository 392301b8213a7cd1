-- The plugs that the interface rule gives are as they have to be.
use Rattle.std.proofs.Common.{◌≡◌, ◌<◌, ◌+◌, ◌∷◌, [], ◌++◌, ◌∙◌, ℕ, suc, zero, List, length, take, map, replicate, get_or, true, Option, Some, None, All, refl, ap, sym, subst, arith, length-append, append_assoc}
use Rattle.std.specs.Prelude.{zip}
use Rattle.std.specs.List.{slice_get}
use Rattle.std.specs.Option.{option_map, option_map_or, option_and_then}
use Rattle.virt_topo.specs.declared.loads.Load.{Load}
use Rattle.virt_topo.specs.Loads.{loads_from, loads_of}
use Rattle.virt_topo.specs.Loads as wires
use Rattle.std.proofs.lemmas.Bool.{cond_both}
use Rattle.std.proofs.lemmas.Option.{option_and_then_some, slice_get-get_or}
use Rattle.std.proofs.lemmas.List.{take-take, take_at, take_all, get_or-take, get_or_push, get_or-map}
use Rattle.std.proofs.lemmas.List.Elements.{All-append, All-cons}
use Rattle.lab_base.specs.declared.ids.IfaceId.{IfaceId}
use Rattle.lab_base.specs.declared.ids.NodeId.{NodeId}
use Rattle.phys_lab.specs.declared.parts.Iface.{Iface}
use Rattle.phys_lab.specs.Labs.{Lab}
use Rattle.virt_topo.specs.declared.wiring.VirtEnd.{VirtEnd}
use Rattle.virt_topo.specs.declared.wiring.Segment.{Segment}
use Rattle.virt_topo.specs.declared.wiring.Wiring.{Wiring}
use Rattle.virt_topo.specs.Soundness.{IsSound}
use Rattle.lab_model.specs.Shapes.{Place}
use Rattle.lab_model.specs.Uses.{no_iface, iface_at}
use Rattle.lab_model.specs.Rules.{no_place, no_load, end_node, keeps_f5, Laid, load_at}
use Rattle.lab_model.specs.Feasible.{AllPass}
use Rattle.node_maps.specs.declared.ends.End.{End}
use Rattle.node_maps.specs.NodeMaps.{segment_end, ends_from, ends_of, load_of, may_take, first_iface, with_plug, laid_from, plugs_in, plugs_from, plugs_of}
use Rattle.node_maps.proofs.EndLists.{same_nodes, on_nodes}

abbrev pub no_id : IfaceId
no_id = record { 0 = 0 }

abbrev pub no_laid : Laid
no_laid = (no_load, no_id)

-- what is found may be taken
record Found (n : ℕ) (xs : List Iface) (had : List Laid) (node : NodeId) (load : Load) (i : IfaceId) : Type 0 where
  place : ℕ
  within : place < length xs
  number : i.0 ≡ n + place
  may : may_take i.0 (get_or xs place no_iface) had node load ≡ true

found : (n : ℕ) (xs : List Iface) (had : List Laid) (node : NodeId) (load : Load) (i : IfaceId) → first_iface n xs had node load ≡ Some i → Found n xs had node load i
found n [] had node load i e = absurd (cc e)
found n (x ∷ xs) had node load i e =
    cond_both (may_take n x had node load) (Some (record { 0 = n })) (first_iface (n + 1) xs had node load) (λ (o : Option IfaceId). o ≡ Some i → Found n (x ∷ xs) had node load i)
    (λ yes h.
    let same : n ≡ i.0 = ap (λ (j : IfaceId). j.0) (cc h) in
    record { place = 0; within = omega arith; number = omega (arith, same); may = subst (λ (j : ℕ). may_take j x had node load ≡ true) same yes })
    (λ none h.
    let f = found (n + 1) xs had node load i h in
    record { place = suc f.place; within = omega (arith, f.within); number = omega (arith, f.number); may = f.may }) e

-- an end's plug may be taken, beside the plugs before it
-- an end's plug is the first that may be taken, beside the plugs before it
pub record IsGiven (lab : Lab) (places : List Place) (e : End) (laid : List Laid) (n : ℕ) : Type 0 where
  pub may : may_take (get_or laid n no_laid).1.0 (iface_at lab (get_or laid n no_laid).1) (take n laid) (get_or places e.node no_place).0 (load_of e) ≡ true
  pub first : first_iface 0 lab.ifaces (take n laid) (get_or places e.node no_place).0 (load_of e) ≡ Some (get_or laid n no_laid).1

record Gives (lab : Lab) (places : List Place) (es : List End) (had laid : List Laid) : Type 0 where
  front : take (length had) laid ≡ had
  loads : map (λ x. x.0) laid ≡ map (λ x. x.0) had ++ map load_of es
  each : (k n : ℕ) (d : End) → n ≡ length had + k → k < length es → IsGiven lab places (get_or es k d) laid n

-- the plug of one end is found
pub record Adds (lab : Lab) (places : List Place) (e : End) (had h : List Laid) : Type 0 where
  pub iface : IfaceId
  pub is : h ≡ had ++ (load_of e, iface) ∷ []
  pub first : first_iface 0 lab.ifaces had (get_or places e.node no_place).0 (load_of e) ≡ Some iface
  pub may : may_take iface.0 (iface_at lab iface) had (get_or places e.node no_place).0 (load_of e) ≡ true

adds_of : (lab : Lab) (places : List Place) (e : End) (had h : List Laid) (o : Option IfaceId) → first_iface 0 lab.ifaces had (get_or places e.node no_place).0 (load_of e) ≡ o
    → option_map (λ i. had ++ (load_of e, i) ∷ []) o ≡ Some h → Adds lab places e had h
adds_of lab places e had h None is eq = absurd (cc eq)
adds_of lab places e had h (Some i) is eq =
    let f = found 0 lab.ifaces had (get_or places e.node no_place).0 (load_of e) i is in
    let here : f.place ≡ i.0 = omega (arith, f.number) in
    record {
      iface = i;
      is = sym (cc eq);
      first = is;
      may = subst (λ (j : ℕ). may_take i.0 (get_or lab.ifaces j no_iface) had (get_or places e.node no_place).0 (load_of e) ≡ true) here f.may;
    }

pub adds : (lab : Lab) (places : List Place) (e : End) (had h : List Laid) → e.node < length places → with_plug lab places e had ≡ Some h → Adds lab places e had h
adds lab places e had h placed eq =
    let given : Place → Option (List Laid) = λ q. option_map (λ i. had ++ (load_of e, i) ∷ []) (first_iface 0 lab.ifaces had q.0 (load_of e)) in
    let there : slice_get places e.node ≡ Some (get_or places e.node no_place) = slice_get-get_or places e.node no_place placed in
    adds_of lab places e had h (first_iface 0 lab.ifaces had (get_or places e.node no_place).0 (load_of e)) refl (sym (ap (λ o. option_map_or given o (Some had)) there) ∙ eq)

-- an end whose virtual node is placed gets the first interface that it may have
plug_is : (lab : Lab) (places : List Place) (e : End) (had : List Laid) (i : IfaceId) → e.node < length places
    → first_iface 0 lab.ifaces had (get_or places e.node no_place).0 (load_of e) ≡ Some i → with_plug lab places e had ≡ Some (had ++ (load_of e, i) ∷ [])
plug_is lab places e had i placed first =
    let given : Place → Option (List Laid) = λ q. option_map (λ j. had ++ (load_of e, j) ∷ []) (first_iface 0 lab.ifaces had q.0 (load_of e)) in
    ap (λ o. option_map_or given o (Some had)) (slice_get-get_or places e.node no_place placed) ∙ ap (option_map (λ j. had ++ (load_of e, j) ∷ [])) first

-- the next end, where it gets that plug
pub step_is : (lab : Lab) (places : List Place) (e : End) (es : List End) (had : List Laid) (i : IfaceId) → e.node < length places
    → first_iface 0 lab.ifaces had (get_or places e.node no_place).0 (load_of e) ≡ Some i → laid_from lab places (e ∷ es) had ≡ laid_from lab places es (had ++ (load_of e, i) ∷ [])
step_is lab places e es had i placed first = ap (λ o. option_and_then (λ laid. laid_from lab places es laid) o) (plug_is lab places e had i placed first)

map_push : (had : List Laid) (x : Laid) → map (λ y. y.0) (had ++ x ∷ []) ≡ map (λ y. y.0) had ++ x.0 ∷ []
map_push [] x = refl
map_push (h ∷ had) x = ap (λ (l : List Load). h.0 ∷ l) (map_push had x)

append_none : (xs : List Load) → xs ++ [] ≡ xs
append_none [] = refl
append_none (x ∷ xs) = ap (λ (l : List Load). x ∷ l) (append_none xs)

gives : (lab : Lab) (places : List Place) (es : List End) (had laid : List Laid) → All (λ e. e.node < length places) es → laid_from lab places es had ≡ Some laid
    → Gives lab places es had laid
gives lab places [] had laid placed eq =
    let same : had ≡ laid = cc eq in
    record {
      front = ap (take (length had)) (sym same) ∙ take_all (length had) had (omega arith);
      loads = ap (map (λ x. x.0)) (sym same) ∙ sym (append_none (map (λ x. x.0) had));
      each = λ k n d at lt. absurd (omega (arith, lt));
    }
gives lab places (e ∷ es) had laid placed eq =
    option_and_then_some (λ h. laid_from lab places es h) (with_plug lab places e had) laid eq
    (λ h first rest.
    let a = adds lab places e had h (placed 0 e (omega arith)) first in
    let g = gives lab places es h laid (λ k d lt. placed (suc k) d (omega (arith, lt))) rest in
    let one : Laid = (load_of e, a.iface) in
    let longer : length h ≡ length had + 1 = ap length a.is ∙ length-append had (one ∷ []) in
    let front : take (length had) laid ≡ had =
    sym (take-take (length had) (length h) laid (omega (arith, longer))) ∙ ap (take (length had)) (g.front ∙ a.is) ∙ take_at had (one ∷ []) (length had) refl in
    let at : get_or laid (length had) no_laid ≡ one =
    sym (get_or-take (length h) laid (length had) no_laid (omega (arith, longer))) ∙ ap (λ l. get_or l (length had) no_laid) (g.front ∙ a.is) ∙ get_or_push had one no_laid (length had) refl in
    let here : IsGiven lab places e laid (length had) = record {
      may = ap (λ (x : Laid). may_take x.1.0 (iface_at lab x.1) (take (length had) laid) (get_or places e.node no_place).0 (load_of e)) at
          ∙ ap (λ l. may_take a.iface.0 (iface_at lab a.iface) l (get_or places e.node no_place).0 (load_of e)) front ∙ a.may;
      first = ap (λ l. first_iface 0 lab.ifaces l (get_or places e.node no_place).0 (load_of e)) front ∙ a.first ∙ ap (λ (x : Laid). Some x.1) (sym at);
    } in
    record {
      front = front;
      loads = g.loads ∙ ap (λ l. l ++ map load_of es) (ap (map (λ x. x.0)) a.is ∙ map_push had one) ∙ append_assoc (map (λ x. x.0) had) (load_of e ∷ []) (map load_of es);
      each = λ k n d is lt. each_end lab places e es had laid here (λ j m b same less. g.each j m b (omega (arith, same, longer)) less) k n d is lt;
    })
  where
    each_end : (lab : Lab) (places : List Place) (e : End) (es : List End) (had laid : List Laid) → IsGiven lab places e laid (length had)
        → ((k n : ℕ) (d : End) → n ≡ length had + 1 + k → k < length es → IsGiven lab places (get_or es k d) laid n)
        → (k n : ℕ) (d : End) → n ≡ length had + k → k < length (e ∷ es) → IsGiven lab places (get_or (e ∷ es) k d) laid n
    each_end lab places e es had laid here later zero n d is lt = let same : length had ≡ n = omega (arith, is) in subst (λ (m : ℕ). IsGiven lab places e laid m) same here
    each_end lab places e es had laid here later (suc k) n d is lt = later k n d (omega (arith, is)) (omega (arith, lt))

-- what ends put on their interfaces
loads_in : (n : ℕ) (s : Segment) (es : List VirtEnd) (rest : List Segment) → map load_of (ends_from (n + 1) rest) ≡ loads_from (n + 1) rest
    → map load_of (map (segment_end n s) es ++ ends_from (n + 1) rest) ≡ replicate (length es) (wires.load_of n s) ++ loads_from (n + 1) rest
loads_in n s [] rest h = h
loads_in n s (e ∷ es) rest h = ap (λ (l : List Load). wires.load_of n s ∷ l) (loads_in n s es rest h)

same_loads : (n : ℕ) (segments : List Segment) → map load_of (ends_from n segments) ≡ loads_from n segments
same_loads n [] = refl
same_loads n (s ∷ segments) = loads_in n s s.ends segments (same_loads (n + 1) segments)

-- loads with their plugs, taken apart
take_apart : (n : ℕ) (laid : List Laid) → take n laid ≡ zip (take n (map (λ x. x.0) laid)) (take n (plugs_in laid))
take_apart zero laid = refl
take_apart (suc n) [] = refl
take_apart (suc n) (x ∷ laid) = ap (λ (l : List Laid). x ∷ l) (take_apart n laid)

plug_in : (laid : List Laid) (n : ℕ) → get_or (plugs_in laid) n no_id ≡ (get_or laid n no_laid).1
plug_in [] n = refl
plug_in (x ∷ laid) zero = refl
plug_in (x ∷ laid) (suc n) = plug_in laid n

-- what the rule gives comes with its loads
pub record Laying (lab : Lab) (places : List Place) (es : List End) (plugs : List IfaceId) : Type 0 where
  pub laid : List Laid
  pub from : laid_from lab places es [] ≡ Some laid
  pub is : plugs_in laid ≡ plugs

pub laying : (lab : Lab) (places : List Place) (es : List End) (plugs : List IfaceId) → plugs_from lab places es ≡ Some plugs → Laying lab places es plugs
laying lab places es plugs eq = by (laid_from lab places es []) refl eq
  where
    by : (o : Option (List Laid)) → laid_from lab places es [] ≡ o → option_map (λ laid. plugs_in laid) o ≡ Some plugs → Laying lab places es plugs
    by None is e = absurd (cc e)
    by (Some laid) is e = record { laid = laid; from = is; is = cc e }

-- F5 OF WHAT THE RULE GIVES
pub rule_keeps_f5 : (lab : Lab) (w : Wiring) (places : List Place) (plugs : List IfaceId) → IsSound w → length places ≡ length w.nodes → plugs_of lab w places ≡ Some plugs
    → length plugs ≡ length (ends_of w.segments) → AllPass (length plugs) (keeps_f5 lab w (record { places = places; plugs = plugs }))
rule_keeps_f5 lab w places plugs sound placed eq count e lt =
    let es = ends_of w.segments in
    let on : All (λ (x : End). x.node < length places) es = subst (λ n. All (λ (x : End). x.node < n) es) (sym placed) (on_nodes w sound) in
    let lay = laying lab places es plugs eq in
    let g = gives lab places es [] lay.laid on lay.from in
    let none : End = record { node = 0; segment = 0; multiplexed = Rattle.std.proofs.Common.false; kbps = 0 } in
    let here : e < length es = omega (arith, lt, count) in
    let may = (g.each e e none (omega arith) here).may in
    let node : (get_or es e none).node ≡ end_node w e = sym (get_or-map (λ (x : End). x.node) es e none 0 here) ∙ ap (λ (l : List ℕ). get_or l e 0) (same_nodes w.segments) in
    let load : load_of (get_or es e none) ≡ load_at w e = sym (get_or-map load_of es e none no_load here) ∙ ap (λ (l : List Load). get_or l e no_load) (same_loads 0 w.segments) in
    let loads : map (λ x. x.0) lay.laid ≡ loads_of w = g.loads ∙ same_loads 0 w.segments in
    let plug : get_or plugs e no_id ≡ (get_or lay.laid e no_laid).1 = ap (λ (l : List IfaceId). get_or l e no_id) (sym lay.is) ∙ plug_in lay.laid e in
    let before : take e lay.laid ≡ zip (take e (loads_of w)) (take e plugs) = take_apart e lay.laid ∙ (λ j. zip (take e (loads j)) (take e (lay.is j))) in
    (λ j. may_take (plug j).0 (iface_at lab (plug j)) (sym before j) (get_or places (sym node j) no_place).0 (sym load j)) ∙ may

-- what holds of the loads before and of the end holds after
pub more_all : (P : Load → Type 0) (lab : Lab) (places : List Place) (e : End) (had more : List Laid) → with_plug lab places e had ≡ Some more → All (λ (x : Laid). P x.0) had → P (load_of e) → All (λ (x : Laid). P x.0) more
more_all P lab places e had more eq all here = by (slice_get places e.node) eq
  where
    then : (o : Option IfaceId) → option_map (λ i. had ++ (load_of e, i) ∷ []) o ≡ Some more → All (λ (x : Laid). P x.0) more
    then None is = absurd (cc is)
    then (Some i) is =
        let same : had ++ (load_of e, i) ∷ [] ≡ more = cc is in
        subst (λ l. All (λ (x : Laid). P x.0) l) same (All-append (λ (x : Laid). P x.0) had ((load_of e, i) ∷ []) all (All-cons (λ (x : Laid). P x.0) (load_of e, i) [] here (λ k d lt. absurd (omega (arith, lt)))))

    by : (o : Option Place) → option_map_or (λ p. option_map (λ i. had ++ (load_of e, i) ∷ []) (first_iface 0 lab.ifaces had p.0 (load_of e))) o (Some had) ≡ Some more → All (λ (x : Laid). P x.0) more
    by None is = let same : had ≡ more = cc is in subst (λ l. All (λ (x : Laid). P x.0) l) same all
    by (Some p) is = then (first_iface 0 lab.ifaces had p.0 (load_of e)) is
