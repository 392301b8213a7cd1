-- The interface rule gives the ends on two nodes the same plugs, where the same virtual nodes are there.
use Rattle.std.proofs.Common.{◌≡◌, ◌⊎◌, ◌<◌, ◌∙◌, ◌∷◌, [], inl, inr, ℕ, suc, zero, List, length, get_or, filter, drop, Bool, true, false, cond, eqb, ◌==◌, Some, All, refl, ap, sym, subst, arith}
use Rattle.std.proofs.lemmas.Bool.{eq-eqb, eqb-true, ne_eqb}
use Rattle.lab_base.specs.declared.ids.IfaceId.{IfaceId}
use Rattle.phys_lab.specs.Labs.{Lab}
use Rattle.virt_topo.specs.declared.wiring.Wiring.{Wiring}
use Rattle.virt_topo.specs.declared.mapping.Mapping.{Mapping}
use Rattle.virt_topo.specs.Soundness.{IsSound}
use Rattle.lab_model.specs.Shapes.{Place}
use Rattle.lab_model.specs.Uses.{switch_of}
use Rattle.lab_model.specs.Rules.{no_place}
use Rattle.node_maps.specs.declared.ends.End.{End}
use Rattle.node_maps.specs.NodeMaps.{ends_of, plugs_from, plugs_of}
use Rattle.node_maps.specs.Moved.{IsOn}
use Rattle.node_maps.proofs.EndLists.{on_nodes}
use Rattle.map_state.specs.Nodes.{is_on, no_end, plugs_where, with_plugs}
use Rattle.map_state.proofs.WhereLaws.{filter_alike, with_length}
use Rattle.map_state.proofs.ByNode.{own_plugs}
use Rattle.map_state.proofs.GivenAnew.{given_anew, count_given, filter_placed, same_from, all_passed}
use Rattle.map_anneal.proofs.Frames.{IsOff, AlikeOn, end_place, IsFrame, Follows}

-- on each of the two nodes the same virtual nodes are placed
on_both : (places others : List Place) (a b n : ℕ) (e : End) → AlikeOn a b places others → e.node < length places → (n ≡ a) ⊎ (n ≡ b) → is_on places n e ≡ is_on others n e
on_both places others a b n e alike lt here = elim (alike.each e.node no_place lt) [
  | inl same ↦ ap (λ (p : Place). p.0.0 == n) same
  | inr both ↦ (
      let off : (p : Place) → IsOff a b p → eqb p.0.0 n ≡ false = λ p apart. ne_eqb p.0.0 n (λ e. elim here [ inl is ↦ apart.0 (e ∙ is) | inr is ↦ apart.1 (e ∙ is) ]) in
      off (get_or places e.node no_place) both.0 ∙ sym (off (get_or others e.node no_place) both.1))
]

place_both : (places others : List Place) (a b n : ℕ) (e : End) → AlikeOn a b places others → e.node < length places → (n ≡ a) ⊎ (n ≡ b) → is_on places n e ≡ true
    → get_or places e.node no_place ≡ get_or others e.node no_place
place_both places others a b n e alike lt here on =
    let at : (get_or places e.node no_place).0.0 ≡ n = eqb-true (get_or places e.node no_place).0.0 n on in
    elim (alike.each e.node no_place lt) [
      | inl same ↦ same
      | inr both ↦ absurd (elim here [ inl is ↦ both.0.0 (at ∙ is) | inr is ↦ both.0.1 (at ∙ is) ])
    ]

-- THE RULE GIVES THE ENDS ON SUCH A NODE THE SAME
pub given_on : (lab : Lab) (es : List End) (places others : List Place) (a b n : ℕ) → AlikeOn a b places others → All (λ (e : End). e.node < length places) es → (n ≡ a) ⊎ (n ≡ b)
    → plugs_from lab places (filter (is_on places n) es) ≡ plugs_from lab others (filter (is_on others n) es)
given_on lab es places others a b n alike placed here =
    let on_n = is_on places n in
    let there : All (λ (e : End). e.node < length others) es = subst (λ (k : ℕ). All (λ (e : End). e.node < k) es) alike.count placed in
    let same = λ (k : ℕ) (d : End) (lt : k < length es). on_both places others a b n (get_or es k d) alike (placed k d lt) here in
    same_from lab places others (filter on_n es) (filter_placed on_n (length places) es placed) (filter_placed on_n (length others) es there)
    (all_passed (λ (e : End). get_or places e.node no_place ≡ get_or others e.node no_place) on_n es
    (λ k d lt on. place_both places others a b n (get_or es k d) alike (placed k d lt) here on))
    ∙ ap (λ l. plugs_from lab others l) (filter_alike on_n (is_on others n) es same)

-- tests that agree on all ends change the same
with_alike : (p q : End → Bool) (es : List End) (plugs new : List IfaceId) → ((k : ℕ) (d : End) → k < length es → p (get_or es k d) ≡ q (get_or es k d)) → with_plugs p es plugs new ≡ with_plugs q es plugs new
with_alike p q [] plugs new same = refl
with_alike p q (e ∷ es) [] new same = refl
with_alike p q (e ∷ es) (i ∷ plugs) new same =
    ap (λ (b : Bool). cond b (get_or new 0 i ∷ with_plugs p es plugs (drop 1 new)) (i ∷ with_plugs p es plugs new)) (same 0 e (omega arith))
    ∙ (λ j. cond (q e) (get_or new 0 i ∷ with_alike p q es plugs (drop 1 new) (λ k d lt. same (suc k) d (omega (arith, lt))) j) (i ∷ with_alike p q es plugs new (λ k d lt. same (suc k) d (omega (arith, lt))) j))

-- an end that passes gets the same in both lists of plugs, each other one keeps its own
pub record Merged (p : Bool) (one other first second : IfaceId) : Type 0 where
  pub passes : p ≡ true → one ≡ other
  pub fails : p ≡ false → (one ≡ first) × (other ≡ second)

pub merged : (p : End → Bool) (es : List End) (plugs others new : List IfaceId) (k : ℕ) (d : IfaceId) (c : End) → length plugs ≡ length es → length others ≡ length es → length new ≡ length (filter p es) → k < length es
    → Merged (p (get_or es k c)) (get_or (with_plugs p es plugs new) k d) (get_or (with_plugs p es others new) k d) (get_or plugs k d) (get_or others k d)
merged p [] plugs others new k d c count too few lt = absurd (omega (arith, lt))
merged p (e ∷ es) [] others new k d c count too few lt = absurd (omega (arith, count))
merged p (e ∷ es) (i ∷ plugs) [] new k d c count too few lt = absurd (omega (arith, too))
merged p (e ∷ es) (i ∷ plugs) (h ∷ others) new k d c count too few lt =
    by (p e) refl new few k lt (λ later j enough less. merged p es plugs others later j d c (omega (arith, count)) (omega (arith, too)) enough (omega (arith, less)))
  where
    by : (t : Bool) → p e ≡ t → (new : List IfaceId) → length new ≡ length (cond t (e ∷ filter p es) (filter p es)) → (k : ℕ) → k < length (e ∷ es)
        → ((later : List IfaceId) (j : ℕ) → length later ≡ length (filter p es) → j < length es
        → Merged (p (get_or es j c)) (get_or (with_plugs p es plugs later) j d) (get_or (with_plugs p es others later) j d) (get_or plugs j d) (get_or others j d))
        → Merged (p (get_or (e ∷ es) k c)) (get_or (cond t (get_or new 0 i ∷ with_plugs p es plugs (drop 1 new)) (i ∷ with_plugs p es plugs new)) k d)
        (get_or (cond t (get_or new 0 h ∷ with_plugs p es others (drop 1 new)) (h ∷ with_plugs p es others new)) k d) (get_or (i ∷ plugs) k d) (get_or (h ∷ others) k d)
    by true is [] few k lt rest = absurd (omega (arith, few))
    by true is (z ∷ new) few zero lt rest = record { passes = λ yes. refl; fails = λ no. absurd (let both : true ≡ false = sym is ∙ no in cc both) }
    by true is (z ∷ new) few (suc k) lt rest = rest new k (omega (arith, few)) (omega (arith, lt))
    by false is new few zero lt rest = record { passes = λ yes. absurd (let both : true ≡ false = sym yes ∙ is in cc both); fails = λ no. (refl, refl) }
    by false is new few (suc k) lt rest = rest new k few (omega (arith, lt))

-- THE PLUGS AFTER THE TRY ON THE FIRST MAP
pub follows : (lab : Lab) (w : Wiring) (m x : Mapping) (tried others : List Place) (a b : ℕ) (touched : ℕ → Bool) (new : List IfaceId) → IsSound w → length m.places ≡ length w.nodes
    → plugs_of lab w m.places ≡ Some m.plugs → plugs_of lab w x.places ≡ Some x.plugs → IsFrame lab w m x tried others a b touched → plugs_of lab w others ≡ Some new
    → Follows lab w m x tried a b new
follows lab w m x tried others a b touched new sound count m_given x_given f given =
    let es = ends_of w.segments in
    let on : All (λ (e : End). e.node < length w.nodes) es = on_nodes w sound in
    let all : (ps : List Place) → length ps ≡ length w.nodes → All (λ (e : End). e.node < length ps) es = λ ps same. subst (λ (k : ℕ). All (λ (e : End). e.node < k) es) (sym same) on in
    let tried_count : length tried ≡ length w.nodes = f.one.count ∙ count in
    let placed = all tried tried_count in
    let others_count : length others ≡ length w.nodes = sym f.after.count ∙ tried_count in
    let placed_others = all others others_count in
    let placed_m = all m.places count in
    let placed_x = all x.places (sym f.two.count ∙ others_count) in
    let on_a = is_on tried a in
    let on_b = is_on tried b in
    let one = plugs_where (is_on others a) es new in
    let other = plugs_where (is_on others b) es new in
    let given_a = own_plugs lab others es new a placed_others given in
    let given_b = own_plugs lab others es new b placed_others given in
    let tried_a = given_on lab es tried others a b a f.after placed (inl refl) ∙ given_a in
    let tried_b = given_on lab es tried others a b b f.after placed (inr refl) ∙ given_b in
    let first = given_anew lab es tried m.places m.plugs a b one other (record { alike = f.one; placed = placed; old = m_given; first = tried_a; second = tried_b }) in
    let second = given_anew lab es others x.places x.plugs a b one other (record { alike = f.two; placed = placed_others; old = x_given; first = given_a; second = given_b }) in
    let same_a = with_alike on_a (is_on others a) es x.plugs one (λ k d lt. on_both tried others a b a (get_or es k d) f.after (placed k d lt) (inl refl)) in
    let x_a = with_plugs on_a es x.plugs one in
    let same_b = with_alike on_b (is_on others b) es x_a other (λ k d lt. on_both tried others a b b (get_or es k d) f.after (placed k d lt) (inr refl)) in
    let is : new ≡ with_plugs on_b es x_a other = some_is (sym given ∙ second) ∙ ap (λ l. with_plugs (is_on others b) es l other) (sym same_a) ∙ sym same_b in
    let m_all : length m.plugs ≡ length es = count_given lab m.places es m.plugs placed_m m_given in
    let x_all : length x.plugs ≡ length es = count_given lab x.places es x.plugs placed_x x_given in
    let m_a = with_plugs on_a es m.plugs one in
    let few_a = count_given lab tried (filter on_a es) one (filter_placed on_a (length tried) es placed) tried_a in
    let few_b = count_given lab tried (filter on_b es) other (filter_placed on_b (length tried) es placed) tried_b in
    let at_a = λ (e : ℕ) (d : IfaceId) (lt : e < length es). merged on_a es m.plugs x.plugs one e d no_end m_all x_all few_a lt in
    let at_b = λ (e : ℕ) (d : IfaceId) (lt : e < length es). merged on_b es m_a x_a other e d no_end (with_length on_a es m.plugs one m_all) (with_length on_a es x.plugs one x_all) few_b lt in
    let new_at = λ (e : ℕ) (d : IfaceId). ap (λ (l : List IfaceId). get_or l e d) is in
    record {
      plugs = with_plugs on_b es m_a other;
      given = first;
      each = λ e d lt. by (on_b (get_or es e no_end)) (on_a (get_or es e no_end)) refl refl (at_b e d lt) (at_a e d lt) (new_at e d);
      on = λ e d lt here. elim here [
        | inl is ↦ by_a (on_b (get_or es e no_end)) refl (at_b e d lt) (at_a e d lt) (eq-eqb (end_place w tried e).0.0 a is) (new_at e d)
        | inr is ↦ (at_b e d lt).passes (eq-eqb (end_place w tried e).0.0 b is) ∙ sym (new_at e d)
      ];
      others = λ e d lt off.
          let b_off = (at_b e d lt).fails (ne_eqb (end_place w tried e).0.0 b off.1) in
          let a_off = (at_a e d lt).fails (ne_eqb (end_place w tried e).0.0 a off.0) in
          (b_off.0 ∙ a_off.0, new_at e d ∙ b_off.1 ∙ a_off.1);
    }
  where
    some_is : {ps qs : List IfaceId} → Some ps ≡ Some qs → ps ≡ qs
    some_is e = cc e

    by_a : {i j n i_a j_a i_0 j_0 : IfaceId} (t : Bool) {p q : Bool} → p ≡ t → Merged p i j i_a j_a → Merged q i_a j_a i_0 j_0 → q ≡ true → n ≡ j → i ≡ n
    by_a true is second first here new = second.passes is ∙ sym new
    by_a false is second first here new = (second.fails is).0 ∙ first.passes here ∙ sym (second.fails is).1 ∙ sym new

    by : {i j n i_a j_a i_0 j_0 : IfaceId} (t u : Bool) {p q : Bool} → p ≡ t → q ≡ u → Merged p i j i_a j_a → Merged q i_a j_a i_0 j_0 → n ≡ j → (i ≡ n) ⊎ ((i ≡ i_0) × (n ≡ j_0))
    by true u is too second first new = inl (second.passes is ∙ sym new)
    by false true is too second first new = inl ((second.fails is).0 ∙ first.passes too ∙ sym (second.fails is).1 ∙ sym new)
    by false false is too second first new = inr ((second.fails is).0 ∙ (first.fails too).0, new ∙ (second.fails is).1 ∙ (first.fails too).1)

-- ENDS THAT ARE ON THE TWO NODES HAVE THE SAME PLUGS in two maps that agree there
pub plugs_on_both : (lab : Lab) (w : Wiring) (m x : Mapping) (a b e : ℕ) (d : IfaceId) → IsSound w → length m.places ≡ length w.nodes → plugs_of lab w m.places ≡ Some m.plugs → plugs_of lab w x.places ≡ Some x.plugs
    → AlikeOn a b m.places x.places → e < length (ends_of w.segments) → IsOn a b (end_place w m.places e) → get_or m.plugs e d ≡ get_or x.plugs e d
plugs_on_both lab w m x a b e d sound count m_given x_given alike lt on =
    let g = follows lab w m x m.places x.places a b (λ s. false) x.plugs sound count m_given x_given (record {
      one = record { count = refl; each = λ v c less. inl refl };
      two = record { count = refl; each = λ v c less. inl refl };
      before = alike;
      after = alike;
      switches = λ s less marked. absurd (cc marked);
      untouched = λ s k unmarked in_s. inr (λ plugs given. ap (λ (l : List IfaceId). switch_of lab (get_or l k (record { 0 = 0 }))) (some_is (sym given ∙ m_given)));
    }) x_given in
    ap (λ (l : List IfaceId). get_or l e d) (some_is (sym m_given ∙ g.given)) ∙ g.on e d lt on
  where
    some_is : {ps qs : List IfaceId} → Some ps ≡ Some qs → ps ≡ qs
    some_is eq = cc eq
