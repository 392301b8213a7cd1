use Rattle.std.proofs.Common.{◌≡◌, ◌<◌, ◌≤◌, ◌*◌, ◌∙◌, ℕ, List, length, take, get_or, ap, arith}
use Rattle.std.specs.Prelude.{sum_by}
use Rattle.std.proofs.lemmas.List.{take_all}
use Rattle.std.proofs.lemmas.List.Sums.{sum_by_more}
use Rattle.std.proofs.lemmas.Nat.{mul-le}
use Rattle.virt_topo.specs.declared.wiring.Segment.{Segment}
use Rattle.virt_topo.specs.declared.wiring.Wiring.{Wiring}
use Rattle.virt_topo.specs.Soundness.{IsSound, limits_segment}
use Rattle.virt_topo.proofs.CableLaws.{sound_limits, segment_limits, passes_at}
use Rattle.map_state.proofs.spare.most_of.Goals as goal

-- a segment adds at most so much
own_small : (w : Wiring) (n : ℕ) (s : Segment) → IsSound w → n < length w.segments → s ≡ get_or w.segments n s → length s.ends * s.kbps ≤ 256 * 1000000000
own_small w n s sound lt is =
    let limits = segment_limits s (passes_at limits_segment w.segments n s (sound_limits w sound).each_segment lt is) in
    mul-le (length s.ends) s.kbps 256 1000000000 limits.few limits.slow

-- the segment of the loop, and what it adds
record Added (w : Wiring) (n : ℕ) (s : Segment) (len : ℕ) : Type 0 where
  within : n < length w.segments
  small : len * s.kbps ≤ 256 * 1000000000
  is : len * s.kbps ≡ length (get_or w.segments n s).ends * (get_or w.segments n s).kbps

added : (w : Wiring) (items : List Segment) (n : ℕ) (s : Segment) (len : ℕ) → IsSound w → items ≡ w.segments → n < length items → s ≡ get_or items n s → len ≡ length s.ends → Added w n s len
added w items n s len sound same lt read count =
    let within : n < length w.segments = omega (arith, lt, ap length same) in
    let is : s ≡ get_or w.segments n s = read ∙ ap (λ (l : List Segment). get_or l n s) same in
    let own : len * s.kbps ≡ length s.ends * s.kbps = ap (λ (k : ℕ). k * s.kbps) count in
    let small = own_small w n s sound within is in
    record {
      within = within;
      small = omega (arith, own, small);
      is = own ∙ ap (λ (x : Segment). length x.ends * x.kbps) is;
    }

pub overflow_mul-most : goal.overflow_mul-most
overflow_mul-most c =
    let a = added c.args.wiring.now c.as_slice-segment-items.result.now c.loop-segment.segment-index c.segment-item.result c.len.result c.requires c.as_slice-segment-items.ensures c.loop-segment-test.true c.segment-item.is c.len.ensures in
    let small = a.small in
    omega (arith, small)

pub overflow_add-most : goal.overflow_add-most
overflow_add-most c =
    let a = added c.args.wiring.now c.as_slice-segment-items.result.now c.loop-segment.segment-index c.segment-item.result c.len.result c.requires c.as_slice-segment-items.ensures c.loop-segment-test.true c.segment-item.is c.len.ensures in
    let small = a.small in
    let within = a.within in
    let few = (sound_limits c.args.wiring.now c.requires).segments in
    let so_far = c.loop-segment.invariant.small in
    omega (arith, small, within, few, so_far)

pub loop-segment-preserved : goal.loop-segment-preserved
loop-segment-preserved c =
    let w = c.args.wiring.now in
    let n = c.loop-segment.segment-index in
    let a = added w c.as_slice-segment-items.result.now n c.segment-item.result c.len.result c.requires c.as_slice-segment-items.ensures c.loop-segment-test.true c.segment-item.is c.len.ensures in
    let small = a.small in
    let is = a.is in
    let before = c.loop-segment.invariant.so_far in
    let few = c.loop-segment.invariant.small in
    let more = sum_by_more (λ (s : Segment). length s.ends * s.kbps) w.segments n c.segment-item.result a.within in
    record {
      so_far = omega (arith, is, before, more);
      small = omega (arith, small, few);
    }

pub returns-clause-is : goal.returns-clause-is
returns-clause-is c =
    let w = c.args.wiring.now in
    let all : take c.loop-segment.segment-index w.segments ≡ w.segments = take_all c.loop-segment.segment-index w.segments (omega (arith, c.loop-segment-test.false, ap length c.as_slice-segment-items.ensures)) in
    c.loop-segment.invariant.so_far ∙ ap (λ (l : List Segment). sum_by (λ (s : Segment). length s.ends * s.kbps) l) all

pub returns-clause-small : goal.returns-clause-small
returns-clause-small c =
    let few = (sound_limits c.args.wiring.now c.requires).segments in
    let so_far = c.loop-segment.invariant.small in
    let auto = c.loop-segment.auto.segment-index-end in
    omega (arith, few, so_far, auto, ap length c.as_slice-segment-items.ensures)
