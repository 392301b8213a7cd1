-- A move on two maps that agree on what it reads.
use Rattle.std.proofs.Common.{◌≡◌, ◌<◌, ◌+◌, ◌∙◌, inl, inr, ℕ, List, [], length, get_or, Bool, Contains, ap, sym, subst, arith, get_or-set_other, get_or-set_same}
use Rattle.std.proofs.Math.ListN.{set}
use Rattle.std.proofs.lemmas.Bool.{cases_eq}
use Rattle.std.proofs.lemmas.List.{length-set}
use Rattle.phys_lab.specs.declared.free.Free.{Free}
use Rattle.phys_lab.specs.Labs.{Lab}
use Rattle.virt_topo.specs.declared.wiring.Wiring.{Wiring}
use Rattle.virt_topo.specs.declared.mapping.Mapping.{Mapping}
use Rattle.virt_topo.specs.Wirings.{virt_at}
use Rattle.virt_topo.specs.Soundness.{IsSound}
use Rattle.lab_model.specs.Shapes.{Place, node_at}
use Rattle.lab_model.specs.Rules.{place_at, no_place}
use Rattle.cost_rule.specs.Cost.{missed}
use Rattle.node_maps.specs.NodeMaps.{candidates, ends_of}
use Rattle.node_maps.specs.Moved.{AlikeBut}
use Rattle.node_maps.proofs.MapLaws.{choice_within}
use Rattle.map_state.specs.Nodes.{no_end}
use Rattle.map_state.specs.Hosted.{placed_at, asked_soft}
use Rattle.map_state.proofs.Alikes.{alike_moved}
use Rattle.map_state.proofs.Choices.{choice_moved}
use Rattle.map_state.proofs.HostingLaws.{soft_after}
use Rattle.map_anneal.proofs.Frames.{IsOff, AlikeOn, end_place}
use Rattle.map_anneal.proofs.MoveReads.{ReadAlike}
use Rattle.map_anneal.proofs.PriceFrames.{node_softs_add}
use Rattle.map_anneal.proofs.TryLaws.{IsMapOf, Again}

-- both agree on the nodes once both have the virtual node at the same new place
pub alike_after : (a b : ℕ) (places others : List Place) (v : ℕ) (p : Place) → AlikeOn a b places others → v < length places → AlikeOn a b (set places v p) (set others v p)
alike_after a b places others v p alike lt = record {
  count = length-set places v p ∙ alike.count ∙ sym (length-set others v p);
  each = λ k d less. elim (cases_eq k v) [
    | inl is ↦ inl (ap (λ (j : ℕ). get_or (set places v p) j d) is ∙ get_or-set_same places v p d lt
        ∙ sym (ap (λ (j : ℕ). get_or (set others v p) j d) is ∙ get_or-set_same others v p d (let c = alike.count in omega (arith, c, lt))))
    | inr apart ↦ (
        let one = get_or-set_other places v k p d apart in
        let two = get_or-set_other others v k p d apart in
        elim (alike.each k d (omega (arith, less, length-set places v p))) [
          | inl same ↦ inl (one ∙ same ∙ sym two)
          | inr off ↦ inr (subst (IsOff a b) (sym one) off.0, subst (IsOff a b) (sym two) off.1)
        ])
  ];
}

-- TWO MAPS AND A MOVE
pub record MoveAgain (lab : Lab) (free : Free) (w : Wiring) (m x : Mapping) (v : ℕ) (p : Place) (touched : ℕ → Bool) : Type 0 where
  pub sound : IsSound w
  pub first : IsMapOf lab free w m
  pub second : IsMapOf lab free w x
  pub among : Contains (get_or (candidates lab free w) v []) p
  pub reads : ReadAlike lab w m x v p touched

pub again_moved : (lab : Lab) (free : Free) (w : Wiring) (m x : Mapping) (v : ℕ) (p : Place) (touched : ℕ → Bool) → MoveAgain lab free w m x v p touched
    → Again lab free w m x (set m.places v p) (set x.places v p) p.0.0 (place_at m v).0.0 touched
again_moved lab free w m x v p touched h =
    let a = p.0.0 in
    let b = (place_at m v).0.0 in
    let r = h.reads in
    let m_within = choice_within lab free w m.places h.first.choice in
    let x_within = choice_within lab free w x.places h.second.choice in
    let lt : v < length m.places = (let c = m_within.placed in let within = r.within in omega (arith, c, within)) in
    let x_lt : v < length x.places = (let c = r.hosted.count in omega (arith, c, lt)) in
    let here : v < length (candidates lab free w) = (let c = h.first.choice.one_each in omega (arith, c, lt)) in
    let m_choice = choice_moved (candidates lab free w) m.places v p h.first.choice here h.among in
    let x_choice = choice_moved (candidates lab free w) x.places v p h.second.choice here h.among in
    let new_within = choice_within lab free w (set m.places v p) m_choice in
    let at_v : get_or (set m.places v p) v no_place ≡ p = get_or-set_same m.places v p no_place lt in
    let at_x : get_or (set x.places v p) v no_place ≡ p = get_or-set_same x.places v p no_place x_lt in
    let one = alike_moved m.places v p lt in
    let two : AlikeBut a b (set x.places v p) x.places = subst (λ (q : Place). AlikeBut a q.0.0 (set x.places v p) x.places) (sym r.same) (alike_moved x.places v p x_lt) in
    let after = alike_after a b m.places x.places v p r.hosted lt in
    let n : Mapping = placed_at m v p in
    let y : Mapping = placed_at x v p in
    let nodes = node_softs_add lab w m n x y a b (record { one = one; two = two; before = r.hosted; after = after }) new_within.placed in
    let soft_m = soft_after lab w m v p r.within lt in
    let soft_x = soft_after lab w x v p r.within x_lt in
    let own : ◌≡◌ {A = ℕ} (missed (virt_at w v).desires (node_at lab (place_at m v).0).features + missed (node_at lab (place_at m v).0).features (virt_at w v).desires)
    (missed (virt_at w v).desires (node_at lab (place_at x v).0).features + missed (node_at lab (place_at x v).0).features (virt_at w v).desires) =
    ap (λ (q : Place). missed (virt_at w v).desires (node_at lab q.0).features + missed (node_at lab q.0).features (virt_at w v).desires) r.same in
    let now : ◌≡◌ {A = ℕ} (missed (virt_at w v).desires (node_at lab (place_at n v).0).features + missed (node_at lab (place_at n v).0).features (virt_at w v).desires)
    (missed (virt_at w v).desires (node_at lab (place_at y v).0).features + missed (node_at lab (place_at y v).0).features (virt_at w v).desires) =
    ap (λ (q : Place). missed (virt_at w v).desires (node_at lab q.0).features + missed (node_at lab q.0).features (virt_at w v).desires) (at_v ∙ sym at_x) in
    let taken = r.taken in
    let left = r.left in
    let left_x = ap (λ (q : Place). asked_soft w (placed_at x v p) (virt_at w v).asks q.1) r.same in
    record {
      sound = h.sound;
      first = h.first;
      second = h.second;
      tried_choice = m_choice;
      others_choice = x_choice;
      a_in = subst (λ (q : Place). q.0.0 < length lab.nodes) at_v (new_within.are.in_nodes v no_place (omega (arith, lt, length-set m.places v p)));
      b_in = m_within.are.in_nodes v no_place lt;
      frame = record {
        one = one;
        two = two;
        before = r.hosted;
        after = after;
        switches = r.switches;
        untouched = λ s e unmarked in_s. elim (r.untouched s e unmarked in_s) [ inl off ↦ inl (off_after s e off) | inr keeps ↦ inr keeps ];
      };
      classes = omega (arith, nodes, soft_m, soft_x, own, now, taken, left, left_x);
    }
  where
    off_after : (s e : ℕ) → IsOff p.0.0 (place_at m v).0.0 (end_place w m.places e) → IsOff p.0.0 (place_at m v).0.0 (end_place w (set m.places v p) e)
    off_after s e off = elim (cases_eq (get_or (ends_of w.segments) e no_end).node v) [
      | inl is ↦ absurd (off.1 (ap (λ (k : ℕ). (get_or m.places k no_place).0.0) is))
      | inr apart ↦ subst (IsOff p.0.0 (place_at m v).0.0) (sym (get_or-set_other m.places v (get_or (ends_of w.segments) e no_end).node p no_place apart)) off
    ]
