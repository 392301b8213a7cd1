-- Known exchanges of a virtual node, before and after a step.
use Rattle.std.proofs.Common.{◌≡◌, ◌≢◌, ◌<◌, ◌∙◌, inl, inr, ℕ, List, [], length, get_or, replicate, Bool, true, false, Contains, refl, ap, sym, subst, arith, get_or-set_same, get_or-set_other}
use Rattle.std.proofs.Math.ListN.{set}
use Rattle.std.proofs.lemmas.Bool.{cases_eq}
use Rattle.std.proofs.lemmas.List.{length-set, length-replicate, get_or-replicate, get_or_default}
use Rattle.virt_topo.specs.declared.mapping.Mapping.{Mapping}
use Rattle.virt_topo.specs.Wirings.{virt_at}
use Rattle.lab_model.specs.Shapes.{Place}
use Rattle.lab_model.specs.Rules.{is_member, no_place, place_at}
use Rattle.node_maps.specs.NodeMaps.{ends_of}
use Rattle.node_maps.proofs.EndLists.{same_length}
use Rattle.node_maps.proofs.MapLaws.{mapped_is, choice_within}
use Rattle.node_maps.proofs.Shaped.{shaped}
use Rattle.trunk_sums.proofs.Replugged.{in_ends}
use Rattle.map_anneal.specs.Sought.{Sought, choices, candidates_at, NoExchange}
use Rattle.map_anneal.specs.RuledOut.{ArePairs, IsExchangeNoLess, IsPairs, swapped}
use Rattle.map_anneal.specs.Steps.{AreStill, IsAside, KeepsTypes}
use Rattle.map_anneal.specs.Untouched.{IsTouched}
use Rattle.map_anneal.specs.declared.known.Touched.{Touched}
use Rattle.map_anneal.proofs.Frames.{IsOff}
use Rattle.map_anneal.proofs.MoveReads.{ExchangeAlike}
use Rattle.map_anneal.proofs.SegmentFrames.{sits_from}
use Rattle.map_anneal.proofs.SwapLaws.{swap_classes}
use Rattle.map_anneal.proofs.TryLaws.{no_less_again}
use Rattle.map_anneal.proofs.ExchangeLaws.{again_exchanged}
use Rattle.map_anneal.proofs.StepLaws.{segment_of}
use Rattle.map_anneal.proofs.RowLaws.{AreTwo, no_cheaper}

-- a step, and two virtual nodes whose nodes it leaves aside and whose classes keep their types
pub record AreBeside (s : Sought) (x y : Mapping) (still : List Bool) (v u : ℕ) : Type 0 where
  pub two : AreTwo s x y
  pub still_so : AreStill s.lab s.wiring x y still
  pub v_in : v < length s.wiring.nodes
  pub u_in : u < length s.wiring.nodes
  pub apart : v ≢ u
  pub v_aside : IsAside s.wiring x y still (place_at x v).0.0
  pub u_aside : IsAside s.wiring x y still (place_at x u).0.0
  pub v_class : (c : ℕ) → is_member c (virt_at s.wiring v).asks ≡ true → KeepsTypes s.wiring x y c
  pub u_class : (c : ℕ) → is_member c (virt_at s.wiring u).asks ≡ true → KeepsTypes s.wiring x y c

-- a virtual node on a node that is aside stays
stays_at : (s : Sought) (x y : Mapping) (still : List Bool) (v : ℕ) → v < length s.wiring.nodes → IsAside s.wiring x y still (place_at x v).0.0 → place_at x v ≡ place_at y v
stays_at s x y still v lt aside = elim (aside.places v lt) [ inl is ↦ is | inr off ↦ absurd (off.0 refl) ]

exchange_alike : (s : Sought) (x y : Mapping) (still : List Bool) (v u : ℕ) → AreBeside s x y still v u → ExchangeAlike s.lab s.wiring x y v u (λ k. get_or still k false)
exchange_alike s x y still v u h =
    let w = s.wiring in
    let x_is = mapped_is s.lab s.free w x.places x h.two.first.feasible in
    let y_is = mapped_is s.lab s.free w y.places y h.two.second.feasible in
    let x_within = choice_within s.lab s.free w x.places h.two.first.choice in
    let y_within = choice_within s.lab s.free w y.places h.two.second.choice in
    let x_all = x_within.placed in
    let y_all = y_within.placed in
    let x_shaped = shaped s.lab w x.places x.plugs h.two.sound x_all x_within.are x_is.given in
    let y_shaped = shaped s.lab w y.places y.plugs h.two.sound y_all y_within.are y_is.given in
    let same_v = stays_at s x y still v h.v_in h.v_aside in
    let same_u = stays_at s x y still u h.u_in h.u_aside in
    record {
      v_in = h.v_in;
      u_in = h.u_in;
      apart = h.apart;
      same_v = same_v;
      same_u = same_u;
      hosted = record {
        count = x_all ∙ sym y_all;
        each = λ k d lt.
            let k_in : k < length w.nodes = omega (arith, lt, x_all) in
            let x_d = get_or_default x.places k d no_place lt in
            let y_d = get_or_default y.places k d no_place (omega (arith, k_in, y_all)) in
            elim (h.v_aside.places k k_in) [
              | inl is ↦ inl (x_d ∙ is ∙ sym y_d)
              | inr first ↦ elim (h.u_aside.places k k_in) [
                | inl is ↦ inl (x_d ∙ is ∙ sym y_d)
                | inr second ↦ inr (subst (IsOff (place_at x v).0.0 (place_at x u).0.0) (sym x_d) (first.0, second.0), subst (IsOff (place_at x v).0.0 (place_at x u).0.0) (sym y_d) (first.1, second.1))
              ]
            ];
      };
      switches = λ k lt marked. sits_from s.lab w x y k lt x_shaped.plugs y_shaped.plugs (λ e in_k.
          let e_lt = in_ends w.segments k e in_k in
          h.still_so.each e (omega (arith, e_lt, same_length w.segments)) (ap (λ (j : ℕ). get_or still j false) (segment_of w k e in_k) ∙ marked));
      untouched = λ k e unmarked in_k.
          let e_lt = in_ends w.segments k e in_k in
          let lt : e < length (ends_of w.segments) = omega (arith, e_lt, same_length w.segments) in
          let off = ap (λ (j : ℕ). get_or still j false) (segment_of w k e in_k) ∙ unmarked in
          inl (h.v_aside.ends e lt off, h.u_aside.ends e lt off);
      classes = swap_classes w x y v u (place_at x u) (place_at x v) (record {
        x_all = x_all;
        y_all = y_all;
        v_in = h.v_in;
        u_in = h.u_in;
        apart = h.apart;
        x_v = refl;
        y_v = sym same_v;
        x_u = refl;
        y_u = sym same_u;
        v_class = h.v_class;
        u_class = h.u_class;
      });
    }

-- AN EXCHANGE THAT IS BESIDE THE STEP is no cheaper after it where it was none before
exchange_beside : (s : Sought) (x y : Mapping) (still : List Bool) (v u : ℕ) → AreBeside s x y still v u → IsExchangeNoLess s x v u → IsExchangeNoLess s y v u
exchange_beside s x y still v u h was v_among u_among =
    let alike = exchange_alike s x y still v u h in
    let v_there = subst (λ (p : Place). Contains (candidates_at s v) p) (sym alike.same_u) v_among in
    let u_there = subst (λ (p : Place). Contains (candidates_at s u) p) (sym alike.same_v) u_among in
    no_less_again s.number s.lab s.free s.wiring x y (swapped x v u) (swapped y v u) (place_at x v).0.0 (place_at x u).0.0 (λ k. get_or still k false)
    (again_exchanged s.lab s.free s.wiring x y v u (λ k. get_or still k false) (record {
      sound = h.two.sound;
      first = record { choice = h.two.first.choice; mapped = h.two.first.feasible };
      second = record { choice = h.two.second.choice; mapped = h.two.second.feasible };
      v_among = v_there;
      u_among = u_there;
      reads = alike;
    })) (was v_there u_there)

-- what is left of a row: the virtual nodes of each note that is left are untouched
pub record ArePairsLeft (virts : List Bool) (v : ℕ) (old new : List Bool) : Type 0 where
  pub count : length new ≡ length old
  pub known : (u : ℕ) → u < length old → get_or new u false ≡ true → get_or old u false ≡ true
  pub first : (u : ℕ) → u < length old → get_or new u false ≡ true → get_or virts v true ≡ false
  pub second : (u : ℕ) → u < length old → get_or new u false ≡ true → get_or virts u true ≡ false

-- AFTER A STEP what is left of a row is so of the next map
pub pairs_after : (s : Sought) (x y : Mapping) (t : Touched) (v : ℕ) (old new : List Bool) → AreTwo s x y → length (choices s) ≡ length s.wiring.nodes → v < length s.wiring.nodes → IsTouched s.lab s.wiring x y t
    → IsPairs s x v old → ArePairsLeft t.virts.items v old new → IsPairs s y v new
pairs_after s x y t v old new two all v_in touched is left =
    let count = left.count in
    let each = is.one_each in
    record {
      one_each = left.count ∙ is.one_each;
      known = λ u above lt yes.
          let u_lt : u < length old = omega (arith, lt, count) in
          let one = touched.virts v (left.first u u_lt yes) in
          let other = touched.virts u (left.second u u_lt yes) in
          exchange_beside s x y touched.nodes.still v u (record {
            two = two;
            still_so = touched.nodes.still_so;
            v_in = v_in;
            u_in = omega (arith, u_lt, each, all);
            apart = λ e. absurd (omega (arith, e, above));
            v_aside = touched.nodes.aside (place_at x v).0.0 one.here;
            u_aside = touched.nodes.aside (place_at x u).0.0 other.here;
            v_class = one.class;
            u_class = other.class;
          }) (is.known u above u_lt (left.known u u_lt yes));
    }

-- a row with one more note
pub pair_noted : (s : Sought) (m : Mapping) (v u : ℕ) (row : List Bool) (known : Bool) → IsPairs s m v row → u < length row → (known ≡ true → IsExchangeNoLess s m v u) → IsPairs s m v (set row u known)
pair_noted s m v u row known is lt least =
    let count = length-set row u known in
    record {
      one_each = count ∙ is.one_each;
      known = λ k above k_lt yes. elim (cases_eq k u) [
        | inl same ↦ subst (λ (j : ℕ). IsExchangeNoLess s m v j) (sym same)
            (least (sym (get_or-set_same row u known false lt) ∙ ap (λ (j : ℕ). get_or (set row u known) j false) (sym same) ∙ yes))
        | inr apart ↦ is.known k above (omega (arith, k_lt, count)) (sym (get_or-set_other row u k known false apart) ∙ yes)
      ];
    }

-- a row of which nothing is known
pub fresh_pairs : (s : Sought) (m : Mapping) (v n : ℕ) → n ≡ length (choices s) → IsPairs s m v (replicate n false)
fresh_pairs s m v n is =
    let count = length-replicate n false in
    record {
      one_each = count ∙ is;
      known = λ u above lt yes. absurd (let both : false ≡ true = sym (get_or-replicate n u false false (omega (arith, lt, count))) ∙ yes in cc both);
    }

-- rows of which one is another
pub pairs_set : (s : Sought) (m : Mapping) (v : ℕ) (rows : List (List Bool)) (new : List Bool) → ArePairs s m rows → v < length rows → IsPairs s m v new → ArePairs s m (set rows v new)
pairs_set s m v rows new are lt is = record {
  one_each = length-set rows v new ∙ are.one_each;
  each = λ u u_lt. elim (cases_eq u v) [
    | inl same ↦ subst (λ (k : ℕ). IsPairs s m k (get_or (set rows v new) k [])) (sym same) (subst (IsPairs s m v) (sym (get_or-set_same rows v new [] lt)) is)
    | inr apart ↦ subst (IsPairs s m u) (sym (get_or-set_other rows v u new [] apart)) (are.each u u_lt)
  ];
}

-- an exchange that is known is no cheaper
pub known_no_exchange : (s : Sought) (m : Mapping) (v u : ℕ) → IsExchangeNoLess s m v u → NoExchange s m v u
known_no_exchange s m v u is v_among u_among = no_cheaper s m (swapped m v u) (is v_among u_among)
