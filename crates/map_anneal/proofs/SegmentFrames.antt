-- Segments whose plugs follow: a try is one try on both maps.
use Rattle.std.proofs.Common.{◌≡◌, ◌⊎◌, ◌<◌, ◌+◌, ◌-◌, ◌∙◌, inl, inr, ℕ, List, length, get_or, Bool, true, false, Some, refl, ap, sym, subst, arith}
use Rattle.std.proofs.lemmas.Bool.{cases_eq}
use Rattle.std.proofs.lemmas.List.{length-map, get_or-map, ext_get_or}
use Rattle.lab_base.specs.declared.ids.IfaceId.{IfaceId}
use Rattle.phys_lab.specs.Labs.{Lab}
use Rattle.virt_topo.specs.declared.wiring.Wiring.{Wiring}
use Rattle.virt_topo.specs.declared.mapping.Mapping.{Mapping}
use Rattle.virt_topo.specs.Ends.{end_nodes}
use Rattle.lab_model.specs.Shapes.{Place}
use Rattle.lab_model.specs.Uses.{switch_of}
use Rattle.node_maps.specs.NodeMaps.{ends_of}
use Rattle.node_maps.proofs.EndLists.{same_length}
use Rattle.trunk_sums.specs.Summed.{own_plugs, first_end}
use Rattle.trunk_sums.proofs.Replugged.{IsIn, own_at, own_length, in_ends}
use Rattle.map_anneal.proofs.Switches.{switches_of, SitAlike, AreAlikeAt}
use Rattle.map_anneal.proofs.Shares.{OneTry}
use Rattle.virt_topo.specs.Soundness.{IsSound}
use Rattle.lab_model.specs.Rules.{no_place}
use Rattle.node_maps.specs.NodeMaps.{plugs_of}
use Rattle.node_maps.specs.Moved.{IsOn}
use Rattle.node_maps.proofs.EndLists.{on_nodes}
use Rattle.map_state.specs.Nodes.{no_end}
use Rattle.map_anneal.proofs.Frames.{IsOff, end_place, KeepsSwitch, IsFrame, Follows}
use Rattle.map_anneal.proofs.PlugFrames.{plugs_on_both}

abbrev no_id : IfaceId
no_id = record { 0 = 0 }

-- plug for plug on one switch
from_each : (lab : Lab) (plugs others : List IfaceId) → length plugs ≡ length others → ((k : ℕ) → k < length plugs → switch_of lab (get_or plugs k no_id) ≡ switch_of lab (get_or others k no_id)) → SitAlike lab plugs others
from_each lab plugs others count each =
    ext_get_or 0 (switches_of lab plugs) (switches_of lab others) (length-map plugs (switch_of lab) ∙ count ∙ sym (length-map others (switch_of lab)))
    (λ k lt.
    let here : k < length plugs = omega (arith, lt, length-map plugs (switch_of lab)) in
    get_or-map (switch_of lab) plugs k no_id 0 here ∙ each k here ∙ sym (get_or-map (switch_of lab) others k no_id 0 (omega (arith, here, count))))

to_each : (lab : Lab) (plugs others : List IfaceId) (k : ℕ) → length plugs ≡ length others → k < length plugs → SitAlike lab plugs others → switch_of lab (get_or plugs k no_id) ≡ switch_of lab (get_or others k no_id)
to_each lab plugs others k count lt alike =
    sym (get_or-map (switch_of lab) plugs k no_id 0 lt) ∙ ap (λ (l : List ℕ). get_or l k 0) alike ∙ get_or-map (switch_of lab) others k no_id 0 (omega (arith, lt, count))

-- segment s sits alike where each of its ends does, and then each does
pub sits_from : (lab : Lab) (w : Wiring) (m n : Mapping) (s : ℕ) → s < length w.segments → length m.plugs ≡ length (end_nodes w.segments) → length n.plugs ≡ length (end_nodes w.segments)
    → ((e : ℕ) → IsIn w.segments s e → switch_of lab (get_or m.plugs e no_id) ≡ switch_of lab (get_or n.plugs e no_id)) → AreAlikeAt lab w m n s
sits_from lab w m n s lt m_all n_all each =
    let own = own_plugs w.segments m.plugs s in
    let its = own_plugs w.segments n.plugs s in
    let first = first_end w.segments s in
    let m_count = own_length w.segments m.plugs s lt m_all in
    let n_count = own_length w.segments n.plugs s lt n_all in
    from_each lab own its (m_count ∙ sym n_count)
    (λ k less.
    let is : IsIn w.segments s (first + k) = record { segment = lt; from = omega arith; below = omega (arith, less, m_count) } in
    let back : (first + k) - first ≡ k = omega arith in
    ap (λ (j : ℕ). switch_of lab (get_or own j no_id)) (sym back)
    ∙ ap (switch_of lab) (own_at w.segments m.plugs s (first + k) no_id is)
    ∙ each (first + k) is
    ∙ sym (ap (switch_of lab) (own_at w.segments n.plugs s (first + k) no_id is))
    ∙ ap (λ (j : ℕ). switch_of lab (get_or its j no_id)) back)

pub sits_at : (lab : Lab) (w : Wiring) (m n : Mapping) (s e : ℕ) → length m.plugs ≡ length (end_nodes w.segments) → length n.plugs ≡ length (end_nodes w.segments)
    → IsIn w.segments s e → AreAlikeAt lab w m n s → switch_of lab (get_or m.plugs e no_id) ≡ switch_of lab (get_or n.plugs e no_id)
sits_at lab w m n s e m_all n_all is alike =
    let own = own_plugs w.segments m.plugs s in
    let its = own_plugs w.segments n.plugs s in
    let first = first_end w.segments s in
    let m_count = own_length w.segments m.plugs s is.segment m_all in
    let n_count = own_length w.segments n.plugs s is.segment n_all in
    let below = is.below in
    let from = is.from in
    sym (ap (switch_of lab) (own_at w.segments m.plugs s e no_id is))
    ∙ to_each lab own its (e - first) (m_count ∙ sym n_count) (omega (arith, below, from, m_count)) alike
    ∙ ap (switch_of lab) (own_at w.segments n.plugs s e no_id is)

-- a place is on one of two nodes, or off both
on_or_off : (a b : ℕ) (p : Place) → IsOn a b p ⊎ IsOff a b p
on_or_off a b p = elim (cases_eq p.0.0 a) [
  | inl is ↦ inl (inl is)
  | inr not_a ↦ elim (cases_eq p.0.0 b) [ inl is ↦ inl (inr is) | inr not_b ↦ inr (not_a, not_b) ]
]

-- ONE TRY
pub one_try : (lab : Lab) (w : Wiring) (m x n y : Mapping) (a b : ℕ) (touched : ℕ → Bool) (f : IsFrame lab w m x n.places y.places a b touched) (g : Follows lab w m x n.places a b y.plugs) → n.plugs ≡ g.plugs
    → IsSound w → length m.places ≡ length w.nodes → plugs_of lab w m.places ≡ Some m.plugs → plugs_of lab w x.places ≡ Some x.plugs
    → length m.plugs ≡ length (end_nodes w.segments) → length x.plugs ≡ length (end_nodes w.segments) → length n.plugs ≡ length (end_nodes w.segments) → length y.plugs ≡ length (end_nodes w.segments)
    → OneTry lab w m n x y
one_try lab w m x n y a b touched f g is sound count m_given x_given m_all x_all n_all y_all = record { each = λ s lt. by s lt (touched s) refl }
  where
    n_at : (e : ℕ) → get_or n.plugs e no_id ≡ get_or g.plugs e no_id
    n_at e = ap (λ (l : List IfaceId). get_or l e no_id) is

    within : (s e : ℕ) → IsIn w.segments s e → e < length (ends_of w.segments)
    within s e in_s = let lt = in_ends w.segments s e in_s in omega (arith, lt, same_length w.segments)

    -- an end that is on the two nodes after the try was on them before
    was_on : (e : ℕ) → e < length (ends_of w.segments) → IsOn a b (end_place w n.places e) → IsOn a b (end_place w m.places e)
    was_on e lt on = elim (f.one.each (get_or (ends_of w.segments) e no_end).node no_place
        (let at = on_nodes w sound e no_end lt in let c = f.one.count in omega (arith, at, c, count))) [
          | inl same ↦ subst (IsOn a b) same on
          | inr both ↦ both.1
        ]

    -- an end that goes to no other switch in the first map goes to none in the second
    keeps : (s e : ℕ) → IsIn w.segments s e → IsOff a b (end_place w n.places e) ⊎ KeepsSwitch lab w m n.places e
        → (switch_of lab (get_or m.plugs e no_id) ≡ switch_of lab (get_or n.plugs e no_id)) × (switch_of lab (get_or x.plugs e no_id) ≡ switch_of lab (get_or y.plugs e no_id))
    keeps s e in_s (inl off) =
        let others = g.others e no_id (within s e in_s) off in
        (ap (switch_of lab) (sym (n_at e ∙ others.0)), ap (switch_of lab) (sym others.1))
    keeps s e in_s (inr same) =
        let lt = within s e in_s in
        let first : switch_of lab (get_or m.plugs e no_id) ≡ switch_of lab (get_or n.plugs e no_id) = sym (ap (switch_of lab) (n_at e) ∙ same g.plugs g.given) in
        elim (on_or_off a b (end_place w n.places e)) [
          | inl on ↦ (first, ap (switch_of lab) (sym (plugs_on_both lab w m x a b e no_id sound count m_given x_given f.before lt (was_on e lt on))) ∙ first ∙ ap (switch_of lab) (n_at e ∙ g.on e no_id lt on))
          | inr off ↦ (first, ap (switch_of lab) (sym (g.others e no_id lt off).1))
        ]

    by : (s : ℕ) → s < length w.segments → (t : Bool) → touched s ≡ t → (AreAlikeAt lab w m x s × AreAlikeAt lab w n y s) ⊎ (AreAlikeAt lab w m n s × AreAlikeAt lab w x y s)
    by s lt true marked =
        let alike = f.switches s lt marked in
        inl (
          alike,
          sits_from lab w n y s lt n_all y_all (λ e in_s. elim (g.each e no_id (within s e in_s)) [
            | inl same ↦ ap (switch_of lab) (n_at e ∙ same)
            | inr kept ↦ ap (switch_of lab) (n_at e ∙ kept.0) ∙ sits_at lab w m x s e m_all x_all in_s alike ∙ sym (ap (switch_of lab) kept.1)
          ]),
        )
    by s lt false unmarked =
        inr (
          sits_from lab w m n s lt m_all n_all (λ e in_s. (keeps s e in_s (f.untouched s e unmarked in_s)).0),
          sits_from lab w x y s lt x_all y_all (λ e in_s. (keeps s e in_s (f.untouched s e unmarked in_s)).1),
        )
