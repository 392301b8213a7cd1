-- A move between two nodes that a step leaves aside reads what it read before.
use Rattle.std.proofs.Common.{◌≡◌, ◌<◌, ◌+◌, ◌-◌, ◌∙◌, ◌∷◌, [], inl, inr, ℕ, zero, suc, List, length, map, get_or, Bool, true, false, None, Contains, refl, ap, sym, subst, arith}
use Rattle.std.proofs.Math.ListN.{set, get_or-append}
use Rattle.std.proofs.Math.Seq.{get_or-append_right}
use Rattle.std.proofs.lemmas.List.{get_or_default, length-map, get_or-map}
use Rattle.virt_topo.specs.declared.wiring.Segment.{Segment}
use Rattle.virt_topo.specs.declared.wiring.Wiring.{Wiring}
use Rattle.virt_topo.specs.declared.mapping.Mapping.{Mapping}
use Rattle.virt_topo.specs.Wirings.{virt_at}
use Rattle.virt_topo.specs.Soundness.{IsSound}
use Rattle.lab_model.specs.Shapes.{Place}
use Rattle.lab_model.specs.Rules.{is_member, no_place, place_at}
use Rattle.node_maps.specs.declared.ends.End.{End}
use Rattle.node_maps.specs.NodeMaps.{segment_end, ends_from, ends_of}
use Rattle.node_maps.proofs.EndLists.{same_length}
use Rattle.node_maps.proofs.MapLaws.{mapped_is, choice_within}
use Rattle.node_maps.proofs.Shaped.{shaped}
use Rattle.trunk_sums.proofs.Replugged.{IsIn, in_ends}
use Rattle.map_state.specs.Nodes.{no_end}
use Rattle.map_anneal.specs.Sought.{Sought, candidates_at, price, IsNodeMap}
use Rattle.map_anneal.specs.RuledOut.{IsNoLess}
use Rattle.map_anneal.specs.Steps.{AreStill, IsAside, KeepsTypes}
use Rattle.map_anneal.proofs.Frames.{IsOff}
use Rattle.map_anneal.proofs.MoveReads.{ReadAlike}
use Rattle.map_anneal.proofs.SegmentFrames.{sits_from}
use Rattle.map_anneal.proofs.TryLaws.{no_less_again}
use Rattle.map_anneal.proofs.MoveLaws.{again_moved}
use Rattle.map_anneal.proofs.TypeLaws.{soft_alike, soft_now}

-- the ends of segment s are noted as its
segment_from : (n : ℕ) (segments : List Segment) (s e : ℕ) (d : End) → IsIn segments s e → (get_or (ends_from n segments) e d).segment ≡ n + s
segment_from n [] s e d is = absurd (let lt = is.segment in omega (arith, lt))
segment_from n (x ∷ segments) zero e d is =
    let own = map (segment_end n x) x.ends in
    let lt : e < length x.ends = (let below = is.below in omega (arith, below)) in
    let count = length-map x.ends (segment_end n x) in
    let here : ◌≡◌ {A = ℕ} n (n + 0) = omega arith in
    ap (λ (y : End). y.segment) (get_or-append own (ends_from (n + 1) segments) d e (omega (arith, lt, count)) ∙ get_or-map (segment_end n x) x.ends e (record { node = 0; address = None }) d lt) ∙ here
segment_from n (x ∷ segments) (suc s) e d is =
    let own = map (segment_end n x) x.ends in
    let count = length-map x.ends (segment_end n x) in
    let segment = is.segment in
    let from = is.from in
    let below = is.below in
    let rest = segment_from (n + 1) segments s (e - length own) d (record { segment = omega (arith, segment); from = omega (arith, from, count); below = omega (arith, from, below, count) }) in
    let same : ◌≡◌ {A = ℕ} (n + 1 + s) (n + suc s) = omega arith in
    ap (λ (y : End). y.segment) (get_or-append_right own (ends_from (n + 1) segments) e d (omega (arith, from, count))) ∙ rest ∙ same

pub segment_of : (w : Wiring) (s e : ℕ) → IsIn w.segments s e → (get_or (ends_of w.segments) e no_end).segment ≡ s
segment_of w s e is = segment_from 0 w.segments s e no_end is ∙ (let zero_so : ◌≡◌ {A = ℕ} (0 + s) s = omega arith in zero_so)

-- a step, two nodes that it leaves aside, and a virtual node whose class keeps its types
pub record IsBeside (s : Sought) (x y : Mapping) (still : List Bool) (v : ℕ) (p : Place) : Type 0 where
  pub sound : IsSound s.wiring
  pub first : IsNodeMap s x
  pub second : IsNodeMap s y
  pub still_so : AreStill s.lab s.wiring x y still
  pub within : v < length s.wiring.nodes
  pub taken : IsAside s.wiring x y still p.0.0
  pub left : IsAside s.wiring x y still (place_at x v).0.0
  pub class : (c : ℕ) → is_member c (virt_at s.wiring v).asks ≡ true → KeepsTypes s.wiring x y c

pub reads_alike : (s : Sought) (x y : Mapping) (still : List Bool) (v : ℕ) (p : Place) → IsBeside s x y still v p → ReadAlike s.lab s.wiring x y v p (λ k. get_or still k false)
reads_alike s x y still v p h =
    let w = s.wiring in
    let x_is = mapped_is s.lab s.free w x.places x h.first.feasible in
    let y_is = mapped_is s.lab s.free w y.places y h.second.feasible in
    let x_within = choice_within s.lab s.free w x.places h.first.choice in
    let y_within = choice_within s.lab s.free w y.places h.second.choice in
    let x_all = x_within.placed in
    let y_all = y_within.placed in
    let x_shaped = shaped s.lab w x.places x.plugs h.sound x_all x_within.are x_is.given in
    let y_shaped = shaped s.lab w y.places y.plugs h.sound y_all y_within.are y_is.given in
    let same : place_at x v ≡ place_at y v = elim (h.left.places v h.within) [ inl is ↦ is | inr off ↦ absurd (off.0 refl) ] in
    record {
      within = h.within;
      same = same;
      hosted = record {
        count = x_all ∙ sym y_all;
        each = λ u d lt.
            let u_in : u < length w.nodes = omega (arith, lt, x_all) in
            let x_d = get_or_default x.places u d no_place lt in
            let y_d = get_or_default y.places u d no_place (omega (arith, u_in, y_all)) in
            elim (h.taken.places u u_in) [
              | inl is ↦ inl (x_d ∙ is ∙ sym y_d)
              | inr taken ↦ elim (h.left.places u u_in) [
                | inl is ↦ inl (x_d ∙ is ∙ sym y_d)
                | inr left ↦ inr (subst (IsOff p.0.0 (place_at x v).0.0) (sym x_d) (taken.0, left.0), subst (IsOff p.0.0 (place_at x v).0.0) (sym y_d) (taken.1, left.1))
              ]
            ];
      };
      switches = λ k lt marked. sits_from s.lab w x y k lt x_shaped.plugs y_shaped.plugs (λ e in_k.
          let e_lt = in_ends w.segments k e in_k in
          h.still_so.each e (omega (arith, e_lt, same_length w.segments)) (ap (λ (j : ℕ). get_or still j false) (segment_of w k e in_k) ∙ marked));
      untouched = λ k e unmarked in_k.
          let e_lt = in_ends w.segments k e in_k in
          let lt : e < length (ends_of w.segments) = omega (arith, e_lt, same_length w.segments) in
          let off = ap (λ (j : ℕ). get_or still j false) (segment_of w k e in_k) ∙ unmarked in
          inl (h.taken.ends e lt off, h.left.ends e lt off);
      taken = soft_now w x y v (virt_at w v).asks p.1 x_all y_all h.within same h.class;
      left = soft_alike w x y v p (virt_at w v).asks (place_at x v).1 x_all y_all h.within h.class;
    }

-- A MOVE THAT IS BESIDE THE STEP is no cheaper after it where it was none before
pub no_less_beside : (s : Sought) (x y : Mapping) (still : List Bool) (v : ℕ) (p : Place) → IsBeside s x y still v p → Contains (candidates_at s v) p
    → IsNoLess s (price s x) (set x.places v p) → IsNoLess s (price s y) (set y.places v p)
no_less_beside s x y still v p h among least =
    no_less_again s.number s.lab s.free s.wiring x y (set x.places v p) (set y.places v p) p.0.0 (place_at x v).0.0 (λ k. get_or still k false)
    (again_moved s.lab s.free s.wiring x y v p (λ k. get_or still k false) (record {
      sound = h.sound;
      first = record { choice = h.first.choice; mapped = h.first.feasible };
      second = record { choice = h.second.choice; mapped = h.second.feasible };
      among = among;
      reads = reads_alike s x y still v p h;
    })) least
