use Rattle.std.proofs.Common.{◌≡◌, ◌+◌, ◌≤◌, false, nat_le, length, drop, arith, sym, ◌∙◌}
use Rattle.std.proofs.lemmas.Bool.Decides.{nat_tests}
use Rattle.virt_topo.specs.Ends.{end_nodes}
use Rattle.virt_topo.proofs.EndLaws.{ends_from, le_less}
use Rattle.virt_topo.proofs.limits.has_at_most.Goals as goal

pub returns-then-left-len : goal.returns-then-left-len
returns-then-left-len c =
    let more = ends_from c.args.segments.now c.loop-segment.segment-index c.segment-item.result c.loop-segment-test.true c.segment-item.is in
    let few : nat_le (length (end_nodes (drop c.loop-segment.segment-index c.args.segments.now))) c.loop-segment.left ≡ false = grind (arith, nat_tests) in
    sym few ∙ c.loop-segment.invariant

pub loop-segment-preserved : goal.loop-segment-preserved
loop-segment-preserved c =
    let more = ends_from c.args.segments.now c.loop-segment.segment-index c.segment-item.result c.loop-segment-test.true c.segment-item.is in
    let sum : length (end_nodes (drop c.loop-segment.segment-index c.args.segments.now)) ≡ c.len-left.result + length (end_nodes (drop (c.loop-segment.segment-index + 1) c.args.segments.now)) = omega arith in
    let fits : c.len-left.result ≤ c.loop-segment.left = omega arith in
    le_less _ _ c.len-left.result c.loop-segment.left sum fits ∙ c.loop-segment.invariant
