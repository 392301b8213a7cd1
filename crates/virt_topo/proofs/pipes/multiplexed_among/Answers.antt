use Rattle.std.proofs.Common.{◌≡◌, ◌+◌, ◌-◌, ℕ, List, Bool, false, length, drop, get_or, arith, ap, sym, ◌∙◌}
use Rattle.virt_topo.specs.Ends.{end_multiplexed}
use Rattle.virt_topo.proofs.EndLaws.{flags_from, owner_here, owner_past}
use Rattle.virt_topo.proofs.pipes.multiplexed_among.Goals as goal

pub returns-then-before-len : goal.returns-then-before-len
returns-then-before-len c =
    let s = c.segment-item.result in
    let from = flags_from c.args.segments.now c.loop-segment.segment-index s c.loop-segment-test.true c.segment-item.is in
    let rest = end_multiplexed (drop (c.loop-segment.segment-index + 1) c.args.segments.now) in
    let here = owner_here (length s.ends) c.loop-segment.before s.multiplexed false rest (omega (arith, c.len.ensures)) in
    sym (ap (λ (l : List Bool). get_or l c.loop-segment.before false) from ∙ here) ∙ c.loop-segment.invariant

pub loop-segment-preserved : goal.loop-segment-preserved
loop-segment-preserved c =
    let s = c.segment-item.result in
    let from = flags_from c.args.segments.now c.loop-segment.segment-index s c.loop-segment-test.true c.segment-item.is in
    let rest = end_multiplexed (drop (c.loop-segment.segment-index + 1) c.args.segments.now) in
    let past = owner_past (length s.ends) c.loop-segment.before s.multiplexed false rest (omega (arith, c.len.ensures)) in
    let less : c.loop-segment.before - c.len-before.result ≡ c.loop-segment.before - length s.ends = ap (λ (n : ℕ). c.loop-segment.before - n) c.len-before.ensures in
    ap (λ (n : ℕ). get_or rest n false) less ∙ sym (ap (λ (l : List Bool). get_or l c.loop-segment.before false) from ∙ past) ∙ c.loop-segment.invariant
