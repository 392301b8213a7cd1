-- An exchange on two maps that agree on what it reads.
use Rattle.std.proofs.Common.{◌≡◌, ◌≢◌, ◌<◌, ◌+◌, ◌∙◌, inl, inr, ℕ, List, [], length, get_or, Bool, Contains, ap, sym, subst, arith, get_or-set_other, get_or-set_same}
use Rattle.std.proofs.Math.ListN.{set}
use Rattle.std.proofs.lemmas.Bool.{cases_eq}
use Rattle.std.proofs.lemmas.List.{length-set}
use Rattle.phys_lab.specs.declared.free.Free.{Free}
use Rattle.phys_lab.specs.Labs.{Lab}
use Rattle.virt_topo.specs.declared.wiring.Wiring.{Wiring}
use Rattle.virt_topo.specs.declared.mapping.Mapping.{Mapping}
use Rattle.virt_topo.specs.Wirings.{virt_at}
use Rattle.virt_topo.specs.Soundness.{IsSound}
use Rattle.lab_model.specs.Shapes.{Place, node_at}
use Rattle.lab_model.specs.Rules.{place_at, no_place}
use Rattle.cost_rule.specs.Cost.{missed, sum_below, class_soft}
use Rattle.node_maps.specs.NodeMaps.{candidates, ends_of, IsChoice}
use Rattle.node_maps.specs.Moved.{AlikeBut}
use Rattle.node_maps.proofs.MapLaws.{choice_within}
use Rattle.map_state.specs.Nodes.{no_end}
use Rattle.map_state.specs.Hosted.{placed_at, asked_soft}
use Rattle.map_state.proofs.Alikes.{alike_exchanged}
use Rattle.map_state.proofs.Choices.{choice_exchanged}
use Rattle.map_state.proofs.HostingLaws.{soft_after}
use Rattle.map_anneal.specs.RuledOut.{swapped}
use Rattle.map_anneal.proofs.Frames.{IsOff, AlikeOn, end_place, AreClassesAlike}
use Rattle.map_anneal.proofs.MoveReads.{ExchangeAlike}
use Rattle.map_anneal.proofs.PriceFrames.{node_softs_add}
use Rattle.map_anneal.proofs.TryLaws.{IsMapOf, Again}
use Rattle.map_anneal.proofs.MoveLaws.{alike_after}

-- TWO MAPS AND AN EXCHANGE
pub record ExchangeAgain (lab : Lab) (free : Free) (w : Wiring) (m x : Mapping) (v u : ℕ) (touched : ℕ → Bool) : Type 0 where
  pub sound : IsSound w
  pub first : IsMapOf lab free w m
  pub second : IsMapOf lab free w x
  pub v_among : Contains (get_or (candidates lab free w) v []) (place_at m u)
  pub u_among : Contains (get_or (candidates lab free w) u []) (place_at m v)
  pub reads : ExchangeAlike lab w m x v u touched

place_soft : (lab : Lab) (w : Wiring) (v : ℕ) (p q : Place) → p ≡ q → ◌≡◌ {A = ℕ} (missed (virt_at w v).desires (node_at lab p.0).features + missed (node_at lab p.0).features (virt_at w v).desires)
    (missed (virt_at w v).desires (node_at lab q.0).features + missed (node_at lab q.0).features (virt_at w v).desires)
place_soft lab w v p q is = ap (λ (r : Place). missed (virt_at w v).desires (node_at lab r.0).features + missed (node_at lab r.0).features (virt_at w v).desires) is

pub again_exchanged : (lab : Lab) (free : Free) (w : Wiring) (m x : Mapping) (v u : ℕ) (touched : ℕ → Bool) → ExchangeAgain lab free w m x v u touched
    → Again lab free w m x (swapped m v u) (swapped x v u) (place_at m v).0.0 (place_at m u).0.0 touched
again_exchanged lab free w m x v u touched h =
    let q = place_at m v in
    let p = place_at m u in
    let a = q.0.0 in
    let b = p.0.0 in
    let r = h.reads in
    let m_within = choice_within lab free w m.places h.first.choice in
    let x_within = choice_within lab free w x.places h.second.choice in
    let v_w = r.v_in in
    let u_w = r.u_in in
    let m_all = m_within.placed in
    let x_all = x_within.placed in
    let v_lt : v < length m.places = omega (arith, v_w, m_all) in
    let u_lt : u < length m.places = omega (arith, u_w, m_all) in
    let v_lt_x : v < length x.places = omega (arith, v_w, x_all) in
    let u_lt_x : u < length x.places = omega (arith, u_w, x_all) in
    let cs = candidates lab free w in
    let count = h.first.choice.one_each in
    let v_c : v < length cs = omega (arith, v_lt, count) in
    let u_c : u < length cs = omega (arith, u_lt, count) in
    let m_choice = choice_exchanged cs m.places v u p q h.first.choice v_c u_c h.v_among h.u_among in
    let x_places : set (set x.places v p) u q ≡ swapped x v u = (λ j. set (set x.places v (r.same_u j)) u (r.same_v j)) in
    let x_choice = subst (IsChoice cs) x_places (choice_exchanged cs x.places v u p q h.second.choice v_c u_c h.v_among h.u_among) in
    let new_within = choice_within lab free w (swapped m v u) m_choice in
    let one = alike_exchanged m.places v u v_lt u_lt in
    let two : AlikeBut a b (swapped x v u) x.places =
    subst (λ (z : Place × Place). AlikeBut z.0.0.0 z.1.0.0 (swapped x v u) x.places) (λ j. (sym r.same_v j, sym r.same_u j)) (alike_exchanged x.places v u v_lt_x u_lt_x) in
    let m1 : Mapping = placed_at m v p in
    let m2 : Mapping = placed_at m1 u q in
    let x1 : Mapping = placed_at x v p in
    let x2 : Mapping = placed_at x1 u q in
    let u_lt1 : u < length m1.places = omega (arith, u_lt, length-set m.places v p) in
    let u_lt_x1 : u < length x1.places = omega (arith, u_lt_x, length-set x.places v p) in
    let after_x : AlikeOn a b (swapped m v u) (set (set x.places v p) u q) = alike_after a b m1.places x1.places u q (alike_after a b m.places x.places v p r.hosted v_lt) u_lt1 in
    let after = subst (λ (l : List Place). AlikeOn a b (swapped m v u) l) x_places after_x in
    let two_x = subst (λ (l : List Place). AlikeBut a b l x.places) (sym x_places) two in
    let nodes = node_softs_add lab w m m2 x x2 a b (record { one = one; two = two_x; before = r.hosted; after = after_x }) new_within.placed in
    let soft_m1 = soft_after lab w m v p v_w v_lt in
    let soft_m2 = soft_after lab w m1 u q u_w u_lt1 in
    let soft_x1 = soft_after lab w x v p v_w v_lt_x in
    let soft_x2 = soft_after lab w x1 u q u_w u_lt_x1 in
    let at_v1 : place_at m1 v ≡ place_at x1 v = get_or-set_same m.places v p no_place v_lt ∙ sym (get_or-set_same x.places v p no_place v_lt_x) in
    let u_other : u ≢ v = (λ e. r.apart (sym e)) in
    let at_m1 : place_at m1 u ≡ p = get_or-set_other m.places v u p no_place u_other in
    let at_x1 : place_at x1 u ≡ place_at x u = get_or-set_other x.places v u p no_place u_other in
    let at_u2 : place_at m2 u ≡ place_at x2 u = get_or-set_same m1.places u q no_place u_lt1 ∙ sym (get_or-set_same x1.places u q no_place u_lt_x1) in
    let s1 = place_soft lab w v (place_at m v) (place_at x v) r.same_v in
    let s2 = place_soft lab w v (place_at m1 v) (place_at x1 v) at_v1 in
    let s3 = place_soft lab w u (place_at m1 u) (place_at x1 u) (at_m1 ∙ r.same_u ∙ sym at_x1) in
    let s4 = place_soft lab w u (place_at m2 u) (place_at x2 u) at_u2 in
    let same_classes = r.classes in
    let l1 = ap (λ (z : Place). asked_soft w x1 (virt_at w v).asks z.1) r.same_v in
    let l2 = ap (λ (z : Place). asked_soft w m2 (virt_at w u).asks z.1) at_m1 in
    let l3 = ap (λ (z : Place). asked_soft w x2 (virt_at w u).asks z.1) (at_x1 ∙ sym r.same_u) in
    let classes_x : sum_below (length w.classes) (class_soft w m2) + sum_below (length w.classes) (class_soft w x) ≡ sum_below (length w.classes) (class_soft w x2) + sum_below (length w.classes) (class_soft w m) =
    omega (arith, nodes, soft_m1, soft_m2, soft_x1, soft_x2, s1, s2, s3, s4, same_classes, l1, l2, l3) in
    record {
      sound = h.sound;
      first = h.first;
      second = h.second;
      tried_choice = m_choice;
      others_choice = x_choice;
      a_in = m_within.are.in_nodes v no_place v_lt;
      b_in = m_within.are.in_nodes u no_place u_lt;
      frame = record {
        one = one;
        two = two;
        before = r.hosted;
        after = after;
        switches = r.switches;
        untouched = λ s e unmarked in_s. elim (r.untouched s e unmarked in_s) [ inl off ↦ inl (off_after e off) | inr keeps ↦ inr keeps ];
      };
      classes = subst (λ (l : List Place). AreClassesAlike w m x (swapped m v u) l) x_places classes_x;
    }
  where
    off_after : (e : ℕ) → IsOff (place_at m v).0.0 (place_at m u).0.0 (end_place w m.places e) → IsOff (place_at m v).0.0 (place_at m u).0.0 (end_place w (swapped m v u) e)
    off_after e off = elim (cases_eq (get_or (ends_of w.segments) e no_end).node v) [
      | inl is ↦ absurd (off.0 (ap (λ (k : ℕ). (get_or m.places k no_place).0.0) is))
      | inr not_v ↦ elim (cases_eq (get_or (ends_of w.segments) e no_end).node u) [
        | inl is ↦ absurd (off.1 (ap (λ (k : ℕ). (get_or m.places k no_place).0.0) is))
        | inr not_u ↦ subst (IsOff (place_at m v).0.0 (place_at m u).0.0)
            (sym (get_or-set_other (set m.places v (place_at m u)) u (get_or (ends_of w.segments) e no_end).node (place_at m v) no_place not_u ∙ get_or-set_other m.places v (get_or (ends_of w.segments) e no_end).node (place_at m u) no_place not_v)) off
      ]
    ]
