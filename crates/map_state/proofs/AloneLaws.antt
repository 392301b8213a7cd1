-- The plan of a virtual node that is alone on a node hangs on these two alone.
use Rattle.std.proofs.Common.{◌≡◌, ◌<◌, ◌∙◌, ◌∷◌, ◌++◌, [], ℕ, zero, suc, List, length, map, get_or, filter, Bool, true, false, cond, ◌==◌, Option, Some, None, All, refl, ap, sym, arith}
use Rattle.std.specs.Option.{option_map, option_map_or, option_and_then}
use Rattle.std.proofs.lemmas.Bool.{eqb-true}
use Rattle.std.proofs.lemmas.Option.{slice_get-get_or}
use Rattle.lab_base.specs.declared.ids.NodeId.{NodeId}
use Rattle.phys_lab.specs.Labs.{Lab}
use Rattle.lab_model.specs.Shapes.{Place}
use Rattle.lab_model.specs.Rules.{no_place, Laid}
use Rattle.node_maps.specs.declared.ends.End.{End}
use Rattle.node_maps.specs.NodeMaps.{load_of, first_iface, with_plug, laid_from, plugs_in, plugs_from}
use Rattle.map_state.specs.Nodes.{is_on, no_end}
use Rattle.map_state.specs.Hosted.{hosted_at}
use Rattle.map_state.proofs.StateLaws.{own_on}
use Rattle.map_state.proofs.WhereLaws.{numbered_ends}

-- the virtual nodes of these ends are on the same nodes
same_hosts : (lab : Lab) (places others : List Place) (es : List End) (had : List Laid) → All (λ (e : End). e.node < length places) es → All (λ (e : End). e.node < length others) es
    → ((k : ℕ) (d : End) → k < length es → (get_or places (get_or es k d).node no_place).0.0 ≡ (get_or others (get_or es k d).node no_place).0.0)
    → laid_from lab places es had ≡ laid_from lab others es had
same_hosts lab places others [] had here there same = refl
same_hosts lab places others (e ∷ es) had here there same =
    let rule : NodeId → Option (List Laid) = λ n. option_map (λ j. had ++ (load_of e, j) ∷ []) (first_iface 0 lab.ifaces had n (load_of e)) in
    let given : Place → Option (List Laid) = λ q. rule q.0 in
    let node : (get_or places e.node no_place).0 ≡ (get_or others e.node no_place).0 = (λ j. record { 0 = same 0 e (omega arith) j }) in
    let one : with_plug lab places e had ≡ with_plug lab others e had =
    ap (λ o. option_map_or given o (Some had)) (slice_get-get_or places e.node no_place (here 0 e (omega arith))) ∙ ap rule node
    ∙ sym (ap (λ o. option_map_or given o (Some had)) (slice_get-get_or others e.node no_place (there 0 e (omega arith)))) in
    ap (λ o. option_and_then (λ laid. laid_from lab places es laid) o) one
    ∙ later (with_plug lab others e had) (λ laid. same_hosts lab places others es laid (λ k d lt. here (suc k) d (omega (arith, lt))) (λ k d lt. there (suc k) d (omega (arith, lt))) (λ k d lt. same (suc k) d (omega (arith, lt))))
  where
    later : (o : Option (List Laid)) → ((laid : List Laid) → laid_from lab places es laid ≡ laid_from lab others es laid)
        → option_and_then (λ laid. laid_from lab places es laid) o ≡ option_and_then (λ laid. laid_from lab others es laid) o
    later None each = refl
    later (Some laid) each = each laid

-- what holds of the ends that pass
pub passed : (On : End → Type 0) (p : End → Bool) (es : List End) → ((k : ℕ) (d : End) → k < length es → p (get_or es k d) ≡ true → On (get_or es k d)) → All On (filter p es)
passed On p [] each = λ k d lt. absurd (omega (arith, lt))
passed On p (e ∷ es) each = by_test (p e) refl (passed On p es (λ k d lt passes. each (suc k) d (omega (arith, lt)) passes))
  where
    by_test : (b : Bool) → p e ≡ b → All On (filter p es) → All On (cond b (e ∷ filter p es) (filter p es))
    by_test true is rest zero d lt = each 0 e (omega arith) is
    by_test true is rest (suc k) d lt = rest k d (omega (arith, lt))
    by_test false is rest k d lt = rest k d lt

-- the ends on a node that a virtual node has alone are its own
own_ends : (n v : ℕ) (places : List Place) (es : List End) → All (λ (e : End). e.node < length places) es → v < length places → (get_or places v no_place).0.0 ≡ n → hosted_at places n ≡ 1
    → filter (is_on places n) es ≡ filter (λ e. e.node == v) es
own_ends n v places es placed lt here one =
    sym (numbered_ends es (is_on places n) no_end) ∙ ap (λ (l : List ℕ). map (λ k. get_or es k no_end) l) (sym (own_on n v places es placed lt here one)) ∙ numbered_ends es (λ e. e.node == v) no_end

-- THE PLAN of a virtual node that is alone on a node, by whatever places
pub alone_plan : (lab : Lab) (es : List End) (places others : List Place) (v n : ℕ) → All (λ (e : End). e.node < length places) es → All (λ (e : End). e.node < length others) es
    → v < length places → v < length others → (get_or places v no_place).0.0 ≡ n → (get_or others v no_place).0.0 ≡ n → hosted_at places n ≡ 1 → hosted_at others n ≡ 1
    → plugs_from lab places (filter (is_on places n) es) ≡ plugs_from lab others (filter (is_on others n) es)
alone_plan lab es places others v n here there lt less on on_too one one_too =
    let own = filter (λ (e : End). e.node == v) es in
    let all_here : All (λ (e : End). e.node < length places) own = passed (λ (e : End). e.node < length places) (λ e. e.node == v) es (λ k d k_lt is. here k d k_lt) in
    let all_there : All (λ (e : End). e.node < length others) own = passed (λ (e : End). e.node < length others) (λ e. e.node == v) es (λ k d k_lt is. there k d k_lt) in
    let hosts : All (λ (e : End). (get_or places e.node no_place).0.0 ≡ (get_or others e.node no_place).0.0) own =
    passed (λ (e : End). (get_or places e.node no_place).0.0 ≡ (get_or others e.node no_place).0.0) (λ e. e.node == v) es (λ k d k_lt is. (
    let mine : (get_or es k d).node ≡ v = eqb-true (get_or es k d).node v is in
    ap (λ (j : ℕ). (get_or places j no_place).0.0) mine ∙ on ∙ sym on_too ∙ ap (λ (j : ℕ). (get_or others j no_place).0.0) (sym mine))) in
    ap (λ (l : List End). plugs_from lab places l) (own_ends n v places es here lt on one)
    ∙ ap (option_map (λ laid. plugs_in laid)) (same_hosts lab places others own [] all_here all_there (λ k d k_lt. hosts k d k_lt))
    ∙ ap (λ (l : List End). plugs_from lab others l) (sym (own_ends n v others es there less on_too one_too))
