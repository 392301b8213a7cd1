use Rattle.std.proofs.Common.{◌≡◌, ◌<◌, ◌∙◌, ◌∷◌, [], ℕ, List, length, get_or, ap, arith, length-append}
use Rattle.std.proofs.lemmas.List.{get_or_read}
use Rattle.virt_topo.specs.declared.wiring.Segment.{Segment}
use Rattle.virt_topo.proofs.CableLaws.{sound_limits}
use Rattle.trunk_sums.specs.Summed.{no_segment}
use Rattle.map_state.proofs.JointLaws.{range_within}
use Rattle.map_state.proofs.RowLaws.{first_none, first_next, firsts_more}
use Rattle.map_state.proofs.table.firsts_of.Goals as goal

pub loop-segment-init : goal.loop-segment-init
loop-segment-init c = record {
  count = ap length c.new-firsts.ensures.items;
  next = first_none c.args.wiring.now.segments;
  each = λ s lt. absurd (omega (arith, lt));
}

pub overflow_cast-next : goal.overflow_cast-next
overflow_cast-next c =
    let w = c.args.wiring.now in
    let n = c.loop-segment.segment-index in
    let s = c.segment-item.result in
    let test = c.loop-segment-test.true in
    let slice = ap length c.as_slice-segment-items.ensures in
    let lt : n < length w.segments = omega (arith, test, slice) in
    let is : s ≡ get_or w.segments n no_segment = get_or_read w.segments n s lt (c.segment-item.is ∙ ap (λ (l : List Segment). get_or l n s) c.as_slice-segment-items.ensures) no_segment in
    let ends : ◌≡◌ {A = ℕ} c.len.result (length (get_or w.segments n no_segment).ends) = c.len.ensures ∙ ap (λ (y : Segment). length y.ends) is in
    let range = range_within w.segments n lt in
    let limits = sound_limits w c.requires in
    let few = limits.ends in
    omega (arith, ends, range, few)

pub overflow_add-next : goal.overflow_add-next
overflow_add-next c =
    let w = c.args.wiring.now in
    let n = c.loop-segment.segment-index in
    let s = c.segment-item.result in
    let test = c.loop-segment-test.true in
    let slice = ap length c.as_slice-segment-items.ensures in
    let lt : n < length w.segments = omega (arith, test, slice) in
    let is : s ≡ get_or w.segments n no_segment = get_or_read w.segments n s lt (c.segment-item.is ∙ ap (λ (l : List Segment). get_or l n s) c.as_slice-segment-items.ensures) no_segment in
    let ends : ◌≡◌ {A = ℕ} c.len.result (length (get_or w.segments n no_segment).ends) = c.len.ensures ∙ ap (λ (y : Segment). length y.ends) is in
    let range = range_within w.segments n lt in
    let limits = sound_limits w c.requires in
    let few = limits.ends in
    let next = c.loop-segment.invariant.next in
    omega (arith, ends, range, few, next)

pub loop-segment-preserved : goal.loop-segment-preserved
loop-segment-preserved c =
    let w = c.args.wiring.now in
    let n = c.loop-segment.segment-index in
    let s = c.segment-item.result in
    let inv = c.loop-segment.invariant in
    let test = c.loop-segment-test.true in
    let slice = ap length c.as_slice-segment-items.ensures in
    let lt : n < length w.segments = omega (arith, test, slice) in
    let is : s ≡ get_or w.segments n no_segment = get_or_read w.segments n s lt (c.segment-item.is ∙ ap (λ (l : List Segment). get_or l n s) c.as_slice-segment-items.ensures) no_segment in
    let ends : ◌≡◌ {A = ℕ} c.len.result (length (get_or w.segments n no_segment).ends) = c.len.ensures ∙ ap (λ (y : Segment). length y.ends) is in
    let step = first_next w.segments n lt in
    let next = inv.next in
    let count = inv.count in
    let more = c.in_ok-push.ensures.items in
    let long = ap length more ∙ length-append c.loop-segment.firsts.items (c.loop-segment.next ∷ []) in
    record {
      count = omega (arith, count, long);
      next = omega (arith, next, ends, step);
      each = firsts_more w.segments c.loop-segment.firsts.items n c.loop-segment.next inv.count inv.next inv.each c.push.new.self.items more;
    }
