use Rattle.std.proofs.Common.{◌≡◌, ◌<◌, ◌+◌, ◌*◌, ◌∙◌, inl, inr, ℕ, List, length, take, drop, get_or, All, ap, sym, subst, arith, refl}
use Rattle.std.proofs.lemmas.Bool.{cases_lt}
use Rattle.std.proofs.lemmas.List.Elements.{All-drop, All-take}
use Rattle.lab_base.specs.declared.ids.IfaceId.{IfaceId}
use Rattle.phys_lab.proofs.TrunkCount.{few_trunks}
use Rattle.virt_topo.specs.declared.wiring.Segment.{Segment}
use Rattle.virt_topo.specs.Cables.{cables, plugs_on}
use Rattle.virt_topo.proofs.EndLaws.{ends_from}
use Rattle.trunk_sums.specs.Crossed.{side_of}
use Rattle.trunk_sums.specs.Summed.{own_plugs}
use Rattle.trunk_sums.proofs.StartLaws.{next_is}
use Rattle.virt_topo.proofs.CableLaws.{own_limits, limits_of}
use Rattle.trunk_sums.proofs.start.counts_of.Goals as goal

pub loop-segment-preserved : goal.loop-segment-preserved
loop-segment-preserved c =
    let w = c.args.wiring.now in
    let lab = c.args.lab.now in
    let n = c.loop-segment.segment-index in
    let s = c.segment-item.result in
    let inv = c.loop-segment.invariant in
    let few = few_trunks lab c.range-kept.ensures.lab in
    let lt : n < length w.segments = omega (arith, c.loop-segment-test.true, ap length c.as_slice-segment-items.ensures) in
    let is : s ≡ get_or w.segments n s = c.segment-item.is ∙ ap (λ (l : List Segment). get_or l n s) c.as_slice-segment-items.ensures in
    let next = next_is w.segments c.args.plugs.now c.loop-segment.rest.now n s lt is inv.later in
    let ends = ends_from w.segments n s lt is in
    let In : List IfaceId → Type 0 = λ l. All (λ i. i.0 < length lab.ifaces) l in
    let place = inv.place in
    let at : (t : ℕ) → 64 * n + t ≡ c.loop-segment.place + t = λ t. omega (arith, place) in
    record {
      place = omega (arith, place);
      room = c.count_row.ensures.room ∙ inv.room;
      each = λ r t r_lt t_lt. elim (cases_lt r n) [
        | inl below ↦ c.count_row.ensures.earlier (64 * r + t) (omega (arith, below, t_lt, few, place)) ∙ inv.each r t below t_lt
        | inr above ↦ (
            let here : r ≡ n = omega (arith, above, r_lt) in
            ap (λ (k : ℕ). get_or c.count_row.new.counts.items (64 * k + t) 0) here
            ∙ ap (λ (k : ℕ). get_or c.count_row.new.counts.items k 0) (at t)
            ∙ c.count_row.ensures.row t t_lt
            ∙ ap (λ (l : List IfaceId). plugs_on (side_of lab t) l) (c.split_at.ensures.front ∙ ap (λ (k : ℕ). take k c.loop-segment.rest.now) c.len-in-loop-segment.ensures ∙ next.own)
            ∙ ap (λ (k : ℕ). plugs_on (side_of lab t) (own_plugs w.segments c.args.plugs.now k)) (sym here))
      ];
      later = ap (λ (l : List IfaceId). cables (drop (n + 1) w.segments) l) (c.split_at.ensures.back ∙ ap (λ (k : ℕ). drop k c.loop-segment.rest.now) c.len-in-loop-segment.ensures) ∙ next.later;
      plugged = omega (arith, ends, c.len-in-loop-segment.ensures, inv.plugged, c.split_at.ensures.back_len);
      within = subst In (sym c.split_at.ensures.back) (All-drop (λ i. i.0 < length lab.ifaces) c.len-in-loop-segment.result c.loop-segment.rest.now inv.within);
    }

pub split_at-requires : goal.split_at-requires
split_at-requires c =
    let w = c.args.wiring.now in
    let n = c.loop-segment.segment-index in
    let s = c.segment-item.result in
    let inv = c.loop-segment.invariant in
    let lt : n < length w.segments = omega (arith, c.loop-segment-test.true, ap length c.as_slice-segment-items.ensures) in
    let is : s ≡ get_or w.segments n s = c.segment-item.is ∙ ap (λ (l : List Segment). get_or l n s) c.as_slice-segment-items.ensures in
    omega (arith, ends_from w.segments n s lt is, inv.plugged, c.len-in-loop-segment.ensures)

pub count_row-requires-clause-room : goal.count_row-requires-clause-room
count_row-requires-clause-room c =
    let w = c.args.wiring.now in
    let n = c.loop-segment.segment-index in
    let inv = c.loop-segment.invariant in
    let lt : n < length w.segments = omega (arith, c.loop-segment-test.true, ap length c.as_slice-segment-items.ensures) in
    omega (arith, lt, inv.place, inv.room)

pub count_row-requires-clause-in_lab : goal.count_row-requires-clause-in_lab
count_row-requires-clause-in_lab c =
    let lab = c.args.lab.now in
    let inv = c.loop-segment.invariant in
    subst (λ (l : List IfaceId). All (λ i. i.0 < length lab.ifaces) l) (sym c.split_at.ensures.front) (All-take (λ i. i.0 < length lab.ifaces) c.len-in-loop-segment.result c.loop-segment.rest.now inv.within)

pub count_row-requires-clause-few : goal.count_row-requires-clause-few
count_row-requires-clause-few c =
    let w = c.args.wiring.now in
    let n = c.loop-segment.segment-index in
    let s = c.segment-item.result in
    let lt : n < length w.segments = omega (arith, c.loop-segment-test.true, ap length c.as_slice-segment-items.ensures) in
    let is : s ≡ get_or w.segments n s = c.segment-item.is ∙ ap (λ (l : List Segment). get_or l n s) c.as_slice-segment-items.ensures in
    omega (arith, c.split_at.ensures.front_len, c.len-in-loop-segment.ensures, (own_limits w w.segments n s refl c.requires.limits lt is).few)

pub overflow_add-place : goal.overflow_add-place
overflow_add-place c =
    let w = c.args.wiring.now in
    let n = c.loop-segment.segment-index in
    let inv = c.loop-segment.invariant in
    let lt : n < length w.segments = omega (arith, c.loop-segment-test.true, ap length c.as_slice-segment-items.ensures) in
    omega (arith, lt, inv.place, (limits_of w c.requires.limits).segments)
