-- Nodes that are served.
use Rattle.std.proofs.Common.{◌≡◌, ◌≢◌, ◌<◌, ◌∙◌, ◌⊎◌, ◌∷◌, [], inl, inr, ℕ, zero, suc, List, length, get_or, get_or-set_other, filter, Bool, true, false, cond, Some, All, refl, ap, sym, arith}
use Rattle.std.proofs.Math.ListN.{set}
use Rattle.std.proofs.lemmas.Bool.{cases_eq, cases_lt, ne_eqb}
use Rattle.std.proofs.lemmas.List.{length-set}
use Rattle.std.proofs.lemmas.List.Elements.{All-cons}
use Rattle.lab_base.specs.declared.ids.IfaceId.{IfaceId}
use Rattle.phys_lab.specs.Labs.{Lab}
use Rattle.virt_topo.specs.declared.wiring.VirtNode.{VirtNode}
use Rattle.virt_topo.specs.declared.mapping.Mapping.{Mapping}
use Rattle.lab_model.specs.Shapes.{Place, IsShaped, node_at}
use Rattle.lab_model.specs.Rules.{agree, hosted, no_place}
use Rattle.trunk_sums.specs.declared.made.Change.{Change}
use Rattle.trunk_sums.specs.Remade.{remade}
use Rattle.node_maps.specs.declared.ends.End.{End}
use Rattle.node_maps.specs.NodeMaps.{plugs_from, plugs_of}
use Rattle.node_maps.specs.Moved.{may_share}
use Rattle.node_maps.proofs.EndLists.{same_length}
use Rattle.node_maps.proofs.MovedLaws.{hosted_alike}
use Rattle.map_state.specs.declared.search.Search.{Search}
use Rattle.map_state.specs.Nodes.{is_on, numbers_of, plugs_where, with_plugs, changes_of}
use Rattle.map_state.specs.Tables.{IsSearch}
use Rattle.map_state.specs.Hosted.{placed_at}
use Rattle.map_state.specs.Chosen.{IsServed}
use Rattle.map_state.proofs.Alikes.{alike_moved}
use Rattle.map_state.proofs.StateLaws.{placed_ends}
use Rattle.map_state.proofs.ByNode.{all_plugs}
use Rattle.map_state.proofs.GivenAnew.{apart_on, count_given, filter_placed, given_alike}
use Rattle.map_state.proofs.WhereLaws.{remade_where, where_new, where_others}

-- no end passes
filter_off : (p : End → Bool) (es : List End) → All (λ (e : End). p e ≡ false) es → filter p es ≡ []
filter_off p [] off = refl
filter_off p (e ∷ es) off = ap (λ (b : Bool). cond b (e ∷ filter p es) (filter p es)) (off 0 e (omega arith)) ∙ filter_off p es (λ k d lt. off (suc k) d (omega (arith, lt)))

where_off : (p : End → Bool) (es : List End) (plugs : List IfaceId) → All (λ (e : End). p e ≡ false) es → plugs_where p es plugs ≡ []
where_off p [] plugs off = refl
where_off p (e ∷ es) [] off = refl
where_off p (e ∷ es) (i ∷ plugs) off =
    ap (λ (b : Bool). cond b (i ∷ plugs_where p es plugs) (plugs_where p es plugs)) (off 0 e (omega arith)) ∙ where_off p es plugs (λ k d lt. off (suc k) d (omega (arith, lt)))

-- no virtual node is on the node
guests_off : (vs : List VirtNode) (places : List Place) (n : ℕ) → All (λ (p : Place). p.0.0 ≢ n) places → hosted vs places n ≡ []
guests_off [] places n off = refl
guests_off (v ∷ vs) [] n off = refl
guests_off (v ∷ vs) (p ∷ places) n off =
    ap (λ (b : Bool). cond b ((p.1, v.os) ∷ hosted vs places n) (hosted vs places n)) (ne_eqb p.0.0 n (off 0 p (omega arith)))
    ∙ guests_off vs places n (λ k d lt. off (suc k) d (omega (arith, lt)))

given_off : (lab : Lab) (places : List Place) (es : List End) (plugs : List IfaceId) (n : ℕ) → All (λ (e : End). e.node < length places) es → All (λ (p : Place). p.0.0 ≢ n) places
    → plugs_from lab places (filter (is_on places n) es) ≡ Some (plugs_where (is_on places n) es plugs)
given_off lab places es plugs n placed off =
    let none : All (λ (e : End). is_on places n e ≡ false) es = λ k d lt. ne_eqb (get_or places (get_or es k d).node no_place).0.0 n (off (get_or es k d).node no_place (placed k d lt)) in
    ap (λ (l : List End). plugs_from lab places l) (filter_off (is_on places n) es none) ∙ ap Some (sym (where_off (is_on places n) es plugs none))

pub record IsThere (places : List Place) (n : ℕ) : Type 0 where
  pub virt : ℕ
  pub within : virt < length places
  pub at : (get_or places virt no_place).0.0 ≡ n

pub there_or_not : (places : List Place) (n : ℕ) → IsThere places n ⊎ All (λ (p : Place). p.0.0 ≢ n) places
there_or_not [] n = inr (λ k d lt. absurd (omega (arith, lt)))
there_or_not (p ∷ places) n = elim (cases_eq p.0.0 n) [
  | inl is ↦ inl (record { virt = 0; within = omega arith; at = is })
  | inr apart ↦ elim (there_or_not places n) [
    | inl there ↦ inl (record { virt = suc there.virt; within = (let lt = there.within in omega (arith, lt)); at = there.at })
    | inr none ↦ inr (All-cons (λ (q : Place). q.0.0 ≢ n) p places apart none)
  ]
]

pub unused_served : (x : Search) (m : Mapping) (n : ℕ) → IsSearch x → length m.places ≡ length x.mapper.wiring.now.nodes → All (λ (p : Place). p.0.0 ≢ n) m.places → IsServed x m n
unused_served x m n set count off = record {
  shares = ap (agree (node_at x.mapper.lab.now (record { 0 = n })).types) (guests_off x.mapper.wiring.now.nodes m.places n off);
  given = given_off x.mapper.lab.now m.places x.mapper.ends.now m.plugs n (placed_ends x m.places set count) off;
}

-- each end has a plug
all_plugged : (x : Search) (m : Mapping) → IsSearch x → IsShaped x.mapper.lab.now x.mapper.wiring.now m → length m.plugs ≡ length x.mapper.ends.now
all_plugged x m set shaped =
    let ends = ap length set.mapper.ends in
    let same = same_length x.mapper.wiring.now.segments in
    let plugs = shaped.plugs in
    omega (arith, ends, same, plugs)

-- WHERE ALL NODES ARE SERVED the plugs are those of the rule
pub all_given : (x : Search) (m : Mapping) → IsSearch x → IsShaped x.mapper.lab.now x.mapper.wiring.now m → ((n : ℕ) → n < length x.mapper.lab.now.nodes → IsServed x m n)
    → plugs_of x.mapper.lab.now x.mapper.wiring.now m.places ≡ Some m.plugs
all_given x m set shaped served =
    let lab = x.mapper.lab.now in
    let es = x.mapper.ends.now in
    let placed = placed_ends x m.places set shaped.places in
    let count = all_plugged x m set shaped in
    ap (λ (l : List End). plugs_from lab m.places l) (sym set.mapper.ends)
    ∙ all_plugs lab m.places es m.plugs placed count
    (λ n. elim (cases_lt n (length lab.nodes)) [
      | inl lt ↦ (served n lt).given
      | inr out ↦ given_off lab m.places es m.plugs n placed (λ k d k_lt is. let node = shaped.in_nodes k d k_lt in absurd (omega (arith, node, is, out)))
    ])

-- a virtual node that goes to another place changes the nodes that it leaves and takes
pub served_put : (x : Search) (m : Mapping) (v : ℕ) (p : Place) (n : ℕ) → IsSearch x → length m.places ≡ length x.mapper.wiring.now.nodes → v < length m.places
    → n ≢ p.0.0 → n ≢ (get_or m.places v no_place).0.0 → IsServed x m n → IsServed x (placed_at m v p) n
served_put x m v p n is count lt not_new not_old served =
    let lab = x.mapper.lab.now in
    let w = x.mapper.wiring.now in
    let moved = set m.places v p in
    let old = (get_or m.places v no_place).0.0 in
    let alike = alike_moved m.places v p lt in
    record {
      shares = ap (agree (node_at lab (record { 0 = n })).types) (hosted_alike w.nodes moved m.places p.0.0 old n alike not_new not_old) ∙ served.shares;
      given = given_alike lab x.mapper.ends.now moved m.places m.plugs p.0.0 old n alike (placed_ends x moved is (length-set m.places v p ∙ count)) not_new not_old served.given;
    }

-- the mapping whose ends on node n get new plugs
abbrev pub given_to : Search → Mapping → ℕ → List IfaceId → Mapping
given_to x m n new = record { places = m.places; plugs = with_plugs (is_on m.places n) x.mapper.ends.now m.plugs new }

pub served_others : (x : Search) (m : Mapping) (a n : ℕ) (new : List IfaceId) → n ≢ a → IsServed x m n → IsServed x (given_to x m a new) n
served_others x m a n new ne served = record {
  shares = served.shares;
  given = served.given ∙ ap Some (sym (where_others (is_on m.places a) (is_on m.places n) x.mapper.ends.now m.plugs new (apart_on m.places a n (λ e. ne (sym e)))));
}

-- what the rule gives the ends on one node
pub record Gives (x : Search) (m : Mapping) (n : ℕ) (new : List IfaceId) : Type 0 where
  pub set : IsSearch x
  pub shaped : IsShaped x.mapper.lab.now x.mapper.wiring.now m
  pub given : plugs_from x.mapper.lab.now m.places (filter (is_on m.places n) x.mapper.ends.now) ≡ Some new

new_count : (x : Search) (m : Mapping) (n : ℕ) (new : List IfaceId) → Gives x m n new → length new ≡ length (filter (is_on m.places n) x.mapper.ends.now)
new_count x m n new g =
    let es = x.mapper.ends.now in
    let on = is_on m.places n in
    count_given x.mapper.lab.now m.places (filter on es) new (filter_placed on (length m.places) es (placed_ends x m.places g.set g.shaped.places)) g.given

pub served_here : (x : Search) (m : Mapping) (n : ℕ) (new : List IfaceId) → Gives x m n new → may_share x.mapper.lab.now x.mapper.wiring.now m.places n ≡ true → IsServed x (given_to x m n new) n
served_here x m n new g shares = record {
  shares = shares;
  given = g.given ∙ ap Some (sym (where_new (is_on m.places n) x.mapper.ends.now m.plugs new (all_plugged x m g.set g.shaped) (new_count x m n new g)));
}

pub remade_to : (x : Search) (m : Mapping) (n : ℕ) (new : List IfaceId) (changes : List Change) → Gives x m n new
    → changes ≡ changes_of x.table.now.rows.items (numbers_of 0 (is_on m.places n) x.mapper.ends.now) new
    → remade m.plugs changes ≡ with_plugs (is_on m.places n) x.mapper.ends.now m.plugs new
remade_to x m n new changes g noted =
    ap (λ (l : List Change). remade m.plugs l) noted
    ∙ remade_where x.table.now.rows.items m.plugs new x.mapper.ends.now (is_on m.places n) (all_plugged x m g.set g.shaped) (new_count x m n new g)

-- places with the same node and type
pub place_is : (p q : Place) → p.0.0 ≡ q.0.0 → p.1 ≡ q.1 → p ≡ q
place_is p q node type = (λ j. (record { 0 = node j }, type j))

-- what isn't unserved after a node was noted as unserved is another node that wasn't unserved before
unserved_now : (xs : List Bool) (k : ℕ) → get_or (set xs k true) k true ≡ true
unserved_now [] k = refl
unserved_now (x ∷ xs) zero = refl
unserved_now (x ∷ xs) (suc k) = unserved_now xs k

pub record IsFresh (xs : List Bool) (k n : ℕ) : Type 0 where
  pub other : n ≢ k
  pub before : get_or xs n true ≡ false

pub fresh_before : (xs : List Bool) (k n : ℕ) → get_or (set xs k true) n true ≡ false → IsFresh xs k n
fresh_before xs k n fresh = elim (cases_eq n k) [
  | inl is ↦ absurd (let both : true ≡ false = sym (ap (λ (j : ℕ). get_or (set xs k true) j true) is ∙ unserved_now xs k) ∙ fresh in cc both)
  | inr apart ↦ record { other = apart; before = sym (get_or-set_other xs k n true true apart) ∙ fresh }
]
