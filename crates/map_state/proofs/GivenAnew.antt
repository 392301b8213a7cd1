-- The interface rule for places that differ from those of a map at hand on two nodes alone.
use Rattle.std.proofs.Common.{◌≡◌, ◌≢◌, ◌<◌, ◌∙◌, ◌∷◌, ◌++◌, [], inl, inr, ℕ, suc, zero, List, length, get_or, filter, Bool, true, false, cond, eqb, ◌==◌, Option, Some, None, All, refl, ap, sym, subst, arith}
use Rattle.std.specs.Option.{option_map, option_map_or, option_and_then}
use Rattle.std.proofs.lemmas.Bool.{cases_eq, eqb-true, ne_eqb}
use Rattle.std.proofs.lemmas.Option.{slice_get-get_or}
use Rattle.lab_base.specs.declared.ids.IfaceId.{IfaceId}
use Rattle.phys_lab.specs.Labs.{Lab}
use Rattle.lab_model.specs.Shapes.{Place}
use Rattle.lab_model.specs.Rules.{no_place, Laid}
use Rattle.node_maps.specs.declared.ends.End.{End}
use Rattle.node_maps.specs.NodeMaps.{load_of, first_iface, with_plug, laid_from, plugs_in, plugs_from}
use Rattle.node_maps.specs.Moved.{AlikeBut, IsOn}
use Rattle.map_state.specs.Nodes.{is_on, plugs_where, with_plugs}
use Rattle.map_state.proofs.ByNode.{laying_is, own_plugs, all_plugs}
use Rattle.map_state.proofs.WhereLaws.{filter_alike, where_alike, where_new, where_others, with_length}

-- NONE where it doesn't serve all ends of some node
pub none_given : (lab : Lab) (places : List Place) (es : List End) (n : ℕ) → All (λ (e : End). e.node < length places) es → plugs_from lab places (filter (is_on places n) es) ≡ None
    → plugs_from lab places es ≡ None
none_given lab places es n placed none = by (plugs_from lab places es) refl
  where
    by : (o : Option (List IfaceId)) → plugs_from lab places es ≡ o → plugs_from lab places es ≡ None
    by None eq = eq
    by (Some plugs) eq = absurd (let both : ◌≡◌ {A = Option (List IfaceId)} None (Some (plugs_where (is_on places n) es plugs)) = sym none ∙ own_plugs lab places es plugs n placed eq in cc both)

-- the places of the virtual nodes of these ends are the same
same_laid : (lab : Lab) (places last : List Place) (es : List End) (had : List Laid) → All (λ (e : End). e.node < length places) es → All (λ (e : End). e.node < length last) es
    → ((k : ℕ) (d : End) → k < length es → get_or places (get_or es k d).node no_place ≡ get_or last (get_or es k d).node no_place)
    → laid_from lab places es had ≡ laid_from lab last es had
same_laid lab places last [] had here there same = refl
same_laid lab places last (e ∷ es) had here there same =
    let given : Place → Option (List Laid) = λ q. option_map (λ j. had ++ (load_of e, j) ∷ []) (first_iface 0 lab.ifaces had q.0 (load_of e)) in
    let one : with_plug lab places e had ≡ with_plug lab last e had =
    ap (λ o. option_map_or given o (Some had)) (slice_get-get_or places e.node no_place (here 0 e (omega arith)) ∙ ap Some (same 0 e (omega arith)) ∙ sym (slice_get-get_or last e.node no_place (there 0 e (omega arith)))) in
    ap (λ o. option_and_then (λ laid. laid_from lab places es laid) o) one
    ∙ later (with_plug lab last e had) (λ laid. same_laid lab places last es laid (λ k d lt. here (suc k) d (omega (arith, lt))) (λ k d lt. there (suc k) d (omega (arith, lt))) (λ k d lt. same (suc k) d (omega (arith, lt))))
  where
    later : (o : Option (List Laid)) → ((laid : List Laid) → laid_from lab places es laid ≡ laid_from lab last es laid)
        → option_and_then (λ laid. laid_from lab places es laid) o ≡ option_and_then (λ laid. laid_from lab last es laid) o
    later None each = refl
    later (Some laid) each = each laid

pub same_from : (lab : Lab) (places last : List Place) (es : List End) → All (λ (e : End). e.node < length places) es → All (λ (e : End). e.node < length last) es
    → ((k : ℕ) (d : End) → k < length es → get_or places (get_or es k d).node no_place ≡ get_or last (get_or es k d).node no_place)
    → plugs_from lab places es ≡ plugs_from lab last es
same_from lab places last es here there same = ap (option_map (λ laid. plugs_in laid)) (same_laid lab places last es [] here there same)

-- what holds of the ends that pass holds of the ends that were taken
pub all_passed : (On : End → Type 0) (p : End → Bool) (es : List End) → ((k : ℕ) (d : End) → k < length es → p (get_or es k d) ≡ true → On (get_or es k d)) → All On (filter p es)
all_passed On p [] each = λ k d lt. absurd (omega (arith, lt))
all_passed On p (e ∷ es) each =
    by_test (p e) refl (all_passed On p es (λ k d lt passes. each (suc k) d (omega (arith, lt)) passes))
  where
    by_test : (b : Bool) → p e ≡ b → All On (filter p es) → All On (cond b (e ∷ filter p es) (filter p es))
    by_test true is rest zero d lt = each 0 e (omega arith) is
    by_test true is rest (suc k) d lt = rest k d (omega (arith, lt))
    by_test false is rest k d lt = rest k d lt

-- on a node that isn't one of the two the same virtual nodes are placed
on_alike : (places last : List Place) (a b n : ℕ) (e : End) → AlikeBut a b places last → e.node < length places → n ≢ a → n ≢ b → is_on places n e ≡ is_on last n e
on_alike places last a b n e alike lt not_a not_b = elim (alike.each e.node no_place lt) [
  | inl same ↦ ap (λ (p : Place). p.0.0 == n) same
  | inr both ↦ (
      let off : (p : Place) → IsOn a b p → eqb p.0.0 n ≡ false = λ p on. ne_eqb p.0.0 n (λ e. elim on [ inl is ↦ not_a (sym e ∙ is) | inr is ↦ not_b (sym e ∙ is) ]) in
      off (get_or places e.node no_place) both.0 ∙ sym (off (get_or last e.node no_place) both.1))
]

same_place : (places last : List Place) (a b n : ℕ) (e : End) → AlikeBut a b places last → e.node < length places → n ≢ a → n ≢ b → is_on places n e ≡ true
    → get_or places e.node no_place ≡ get_or last e.node no_place
same_place places last a b n e alike lt not_a not_b on =
    let here : (get_or places e.node no_place).0.0 ≡ n = eqb-true (get_or places e.node no_place).0.0 n on in
    elim (alike.each e.node no_place lt) [
      | inl same ↦ same
      | inr both ↦ absurd (elim both.0 [ inl is ↦ not_a (sym here ∙ is) | inr is ↦ not_b (sym here ∙ is) ])
    ]

-- a map at hand, places that differ from its on two nodes alone, and what the rule gives the ends of these nodes
pub record Anew (lab : Lab) (es : List End) (places last : List Place) (plugs : List IfaceId) (a b : ℕ) (one other : List IfaceId) : Type 0 where
  pub alike : AlikeBut a b places last
  pub placed : All (λ (e : End). e.node < length places) es
  pub old : plugs_from lab last es ≡ Some plugs
  pub first : plugs_from lab places (filter (is_on places a) es) ≡ Some one
  pub second : plugs_from lab places (filter (is_on places b) es) ≡ Some other

placed_last : (es : List End) (places last : List Place) → length places ≡ length last → All (λ (e : End). e.node < length places) es → All (λ (e : End). e.node < length last) es
placed_last es places last same placed = subst (λ (n : ℕ). All (λ (e : End). e.node < n) es) same placed

pub filter_placed : (p : End → Bool) (n : ℕ) (es : List End) → All (λ (e : End). e.node < n) es → All (λ (e : End). e.node < n) (filter p es)
filter_placed p n es all = all_passed (λ (e : End). e.node < n) p es (λ k d lt passes. all k d lt)

pub count_given : (lab : Lab) (places : List Place) (es : List End) (plugs : List IfaceId) → All (λ (e : End). e.node < length places) es → plugs_from lab places es ≡ Some plugs → length plugs ≡ length es
count_given lab places es plugs placed eq = (laying_is lab places es plugs placed eq).count

-- on a node that isn't one of the two the rule gives the ends what it gave them
pub given_alike : (lab : Lab) (es : List End) (places last : List Place) (plugs : List IfaceId) (a b n : ℕ) → AlikeBut a b places last → All (λ (e : End). e.node < length places) es → n ≢ a → n ≢ b
    → plugs_from lab last (filter (is_on last n) es) ≡ Some (plugs_where (is_on last n) es plugs)
    → plugs_from lab places (filter (is_on places n) es) ≡ Some (plugs_where (is_on places n) es plugs)
given_alike lab es places last plugs a b n alike placed not_a not_b given =
    let on_n = is_on places n in
    let there = placed_last es places last alike.count placed in
    let same = λ (k : ℕ) (d : End) (lt : k < length es). on_alike places last a b n (get_or es k d) alike (placed k d lt) not_a not_b in
    same_from lab places last (filter on_n es) (filter_placed on_n (length places) es placed) (filter_placed on_n (length last) es there)
    (all_passed (λ (e : End). get_or places e.node no_place ≡ get_or last e.node no_place) on_n es
    (λ k d lt on. same_place places last a b n (get_or es k d) alike (placed k d lt) not_a not_b on))
    ∙ ap (λ l. plugs_from lab last l) (filter_alike on_n (is_on last n) es same)
    ∙ given
    ∙ ap Some (sym (where_alike on_n (is_on last n) es plugs same))

-- an end is on one node
pub apart_on : (places : List Place) (m n : ℕ) → m ≢ n → (e : End) → is_on places m e ≡ true → is_on places n e ≡ false
apart_on places m n ne e on = ne_eqb (get_or places e.node no_place).0.0 n (λ is. ne (sym (eqb-true (get_or places e.node no_place).0.0 m on) ∙ is))

-- THE PLUGS OF ALL ENDS
pub given_anew : (lab : Lab) (es : List End) (places last : List Place) (plugs : List IfaceId) (a b : ℕ) (one other : List IfaceId) → Anew lab es places last plugs a b one other
    → plugs_from lab places es ≡ Some (with_plugs (is_on places b) es (with_plugs (is_on places a) es plugs one) other)
given_anew lab es places last plugs a b one other x =
    let on_a = is_on places a in
    let on_b = is_on places b in
    let first = with_plugs on_a es plugs one in
    let both = with_plugs on_b es first other in
    let there = placed_last es places last x.alike.count x.placed in
    let count = count_given lab last es plugs there x.old in
    let count_first : length first ≡ length es = with_length on_a es plugs one count in
    let count_one = count_given lab places (filter on_a es) one (filter_placed on_a (length places) es x.placed) x.first in
    let count_other = count_given lab places (filter on_b es) other (filter_placed on_b (length places) es x.placed) x.second in
    let apart = apart_on places in
    all_plugs lab places es both x.placed (with_length on_b es first other count_first)
    (λ n. elim (cases_eq n b) [
      | inl is ↦ subst (λ (k : ℕ). plugs_from lab places (filter (is_on places k) es) ≡ Some (plugs_where (is_on places k) es both)) (sym is)
          (x.second ∙ ap Some (sym (where_new on_b es first other count_first count_other)))
      | inr not_b ↦ elim (cases_eq n a) [
        | inl is ↦ subst (λ (k : ℕ). plugs_from lab places (filter (is_on places k) es) ≡ Some (plugs_where (is_on places k) es both)) (sym is)
            (x.first ∙ ap Some (sym (where_others on_b on_a es first other (apart b a (λ e. not_b (is ∙ sym e))) ∙ where_new on_a es plugs one count count_one)))
        | inr not_a ↦ given_alike lab es places last plugs a b n x.alike x.placed not_a not_b (own_plugs lab last es plugs n there x.old)
            ∙ ap Some (sym (where_others on_b (is_on places n) es first other (apart b n (λ e. not_b (sym e))) ∙ where_others on_a (is_on places n) es plugs one (apart a n (λ e. not_a (sym e)))))
      ]
    ])
