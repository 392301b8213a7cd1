use Rattle.std.proofs.Common.{◌<◌, List, All, length, drop, ap, sym, subst, arith, below_more, ◌∙◌}
use Rattle.std.proofs.lemmas.List.Elements.{All-drop}
use Rattle.lab_base.specs.declared.ids.IfaceId.{IfaceId}
use Rattle.virt_topo.specs.declared.wiring.Segment.{Segment}
use Rattle.virt_topo.specs.Ends.{end_nodes}
use Rattle.lab_model.specs.Rules.{are_joined, keeps_f7}
use Rattle.lab_model.proofs.FirstViolation.{first_at, none_at}
use Rattle.feas.proofs.CableSteps.{cut_at, ends_at}
use Rattle.feas.proofs.segments.first_parted.Goals as goal

pub split_at-requires : goal.split_at-requires
split_at-requires c =
    let ends = ends_at c.as_slice-segments.result.now c.loop-segment.segment c.index-segments-segment.result c.loop-segment-test.true in
    let same = ap (λ (l : List Segment). length (end_nodes (drop c.loop-segment.segment l))) c.as_slice-segments.ensures in
    omega (arith, ends, same, c.len.ensures, c.loop-segment.invariant.plugged)

pub returns-then-not-are_joined-clause-first : goal.returns-then-not-are_joined-clause-first
returns-then-not-are_joined-clause-first c =
    let cut = cut_at c.args.wiring.now c.args.mapping.now c.as_slice-segments.result.now c.loop-segment.segment c.len.result c.index-segments-segment.result c.loop-segment.rest.now c.split_at.result.0.now c.split_at.result.1.now
    c.as_slice-segments.ensures c.loop-segment-test.true c.len.ensures c.split_at.ensures.front c.split_at.ensures.back c.loop-segment.invariant.cables in
    first_at _ (keeps_f7 c.args.lab.now c.args.wiring.now c.args.mapping.now) c.loop-segment.segment c.are_joined.result (omega (arith, ap length c.as_slice-segments.ensures))
    (c.are_joined.ensures ∙ ap (λ (l : List IfaceId). are_joined c.args.lab.now l) cut.here) c.if-not-are_joined.true c.loop-segment.invariant.passed

pub loop-segment-preserved : goal.loop-segment-preserved
loop-segment-preserved c =
    let cut = cut_at c.args.wiring.now c.args.mapping.now c.as_slice-segments.result.now c.loop-segment.segment c.len.result c.index-segments-segment.result c.loop-segment.rest.now c.split_at.result.0.now c.split_at.result.1.now
    c.as_slice-segments.ensures c.loop-segment-test.true c.len.ensures c.split_at.ensures.front c.split_at.ensures.back c.loop-segment.invariant.cables in
    record {
      cables = cut.behind;
      plugged = omega (arith, cut.ends, c.split_at.ensures.back_len, c.loop-segment.invariant.plugged);
      within = subst (λ (l : List IfaceId). All (λ i. i.0 < length c.args.lab.now.ifaces) l) (sym c.split_at.ensures.back) (All-drop (λ i. i.0 < length c.args.lab.now.ifaces) c.len.result c.loop-segment.rest.now c.loop-segment.invariant.within);
      passed = below_more _ _ c.loop-segment.invariant.passed (sym (c.are_joined.ensures ∙ ap (λ (l : List IfaceId). are_joined c.args.lab.now l) cut.here) ∙ c.if-not-are_joined.false);
    }

pub returns-clause-first : goal.returns-clause-first
returns-clause-first c = none_at _ (keeps_f7 c.args.lab.now c.args.wiring.now c.args.mapping.now) c.loop-segment.segment (omega (arith, ap length c.as_slice-segments.ensures)) c.loop-segment.invariant.passed
