use Rattle.std.proofs.Common.{◌+◌, Bool, drop, ap, sym, ◌∙◌}
use Rattle.std.specs.Prelude.{◌||◌}
use Rattle.std.specs.List.{list_any}
use Rattle.virt_topo.specs.Soundness.{all_ends, same_address}
use Rattle.virt_topo.proofs.RepeatLaws.{any_from}
use Rattle.virt_topo.proofs.repeats.have_address.Goals as goal

pub returns-then-has_address : goal.returns-then-has_address
returns-then-has_address c =
    let from = any_from (same_address c.args.end) c.args.segments.now c.loop-segment.segment-index c.segment-item.result c.as_slice.result.now c.loop-segment-test.true c.segment-item.is c.as_slice.ensures in
    let later = list_any (same_address c.args.end) (all_ends (drop (c.loop-segment.segment-index + 1) c.args.segments.now)) in
    sym (from ∙ ap (λ (b : Bool). b || later) (sym c.has_address.ensures ∙ c.if-has_address.true)) ∙ c.loop-segment.invariant

pub loop-segment-preserved : goal.loop-segment-preserved
loop-segment-preserved c =
    let from = any_from (same_address c.args.end) c.args.segments.now c.loop-segment.segment-index c.segment-item.result c.as_slice.result.now c.loop-segment-test.true c.segment-item.is c.as_slice.ensures in
    let later = list_any (same_address c.args.end) (all_ends (drop (c.loop-segment.segment-index + 1) c.args.segments.now)) in
    sym (from ∙ ap (λ (b : Bool). b || later) (sym c.has_address.ensures ∙ c.if-has_address.false)) ∙ c.loop-segment.invariant
