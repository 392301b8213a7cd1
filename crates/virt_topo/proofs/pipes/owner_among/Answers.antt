use Rattle.std.proofs.Common.{◌≡◌, ◌+◌, ◌-◌, ℕ, List, [], length, drop, get_or, arith, ap, sym, ◌∙◌}
use Rattle.virt_topo.specs.Ends.{end_owners}
use Rattle.virt_topo.proofs.EndLaws.{owners_from, owner_here, owner_past}
use Rattle.virt_topo.proofs.pipes.owner_among.Goals as goal

pub returns-then-before-len : goal.returns-then-before-len
returns-then-before-len c =
    let s = c.segment-item.result in
    let from = owners_from c.args.segments.now c.loop-segment.segment-index s c.loop-segment-test.true c.segment-item.is in
    let rest = end_owners (drop (c.loop-segment.segment-index + 1) c.args.segments.now) in
    let here = owner_here (length s.ends) c.loop-segment.before s.owner [] rest (omega (arith, c.len.ensures)) in
    c.bytes.ensures.bytes ∙ sym (ap (λ (l : List (List ℕ)). get_or l c.loop-segment.before []) from ∙ here) ∙ c.loop-segment.invariant

pub loop-segment-preserved : goal.loop-segment-preserved
loop-segment-preserved c =
    let s = c.segment-item.result in
    let from = owners_from c.args.segments.now c.loop-segment.segment-index s c.loop-segment-test.true c.segment-item.is in
    let rest = end_owners (drop (c.loop-segment.segment-index + 1) c.args.segments.now) in
    let past = owner_past (length s.ends) c.loop-segment.before s.owner [] rest (omega (arith, c.len.ensures)) in
    let less : c.loop-segment.before - c.len-before.result ≡ c.loop-segment.before - length s.ends = ap (λ (n : ℕ). c.loop-segment.before - n) c.len-before.ensures in
    ap (λ (n : ℕ). get_or rest n []) less ∙ sym (ap (λ (l : List (List ℕ)). get_or l c.loop-segment.before []) from ∙ past) ∙ c.loop-segment.invariant
