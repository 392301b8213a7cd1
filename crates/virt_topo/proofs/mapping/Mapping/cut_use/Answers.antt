use Rattle.std.proofs.Common.{◌≡◌, ◌+◌, ◌<◌, ℕ, List, length, take, drop, All, arith, ap, sym, subst, ◌∙◌}
use Rattle.std.proofs.lemmas.List.Elements.{All-take, All-drop}
use Rattle.lab_base.specs.declared.ids.IfaceId.{IfaceId}
use Rattle.virt_topo.specs.declared.wiring.Segment.{Segment}
use Rattle.virt_topo.specs.Ends.{end_nodes}
use Rattle.virt_topo.specs.Cables.{cables, cable_use, cut_use}
use Rattle.virt_topo.proofs.EndLaws.{ends_from}
use Rattle.virt_topo.proofs.CableLaws.{own_limits, whole_bound, use_from, no_use}
use Rattle.virt_topo.proofs.mapping.Mapping.cut_use.Goals as goal
use Rattle.virt_topo.proofs.mapping.Mapping.cut_use.Goals.{After-segment_use-used}

pub loop-segment-init : goal.loop-segment-init
loop-segment-init c =
    let segments = c.as_slice-segment-items.ensures in
    let plugs = c.as_slice-rest.ensures in
    let same : cut_use c.args.first.now (cables c.as_slice-segment-items.result.now c.as_slice-rest.result.now) ≡ cut_use c.args.first.now (cables c.args.wiring.now.segments c.args.self.now.plugs) = λ i. cut_use c.args.first.now (cables (segments i) (plugs i)) in
    record {
      so_far = omega (arith, same);
      plugged = ap (λ (l : List IfaceId). length l) plugs ∙ c.requires.plugged ∙ sym (ap (λ (l : List Segment). length (end_nodes l)) segments);
      within = subst (λ (l : List IfaceId). All (λ i. i.0 < length c.args.first.now) l) (sym plugs) c.requires.sides;
    }

pub split_at-requires : goal.split_at-requires
split_at-requires c =
    let ends = ends_from c.as_slice-segment-items.result.now c.loop-segment.segment-index c.segment-item.result c.loop-segment-test.true c.segment-item.is in
    omega (arith, ends, c.len.ensures, c.loop-segment.invariant.plugged)

pub segment_use-used-requires-clause-within : goal.segment_use-used-requires-clause-within
segment_use-used-requires-clause-within c =
    subst (λ (l : List IfaceId). All (λ i. i.0 < length c.args.first.now) l) (sym c.split_at.ensures.front) (All-take (λ i. i.0 < length c.args.first.now) c.len.result c.loop-segment.rest.now c.loop-segment.invariant.within)

pub segment_use-used-requires-clause-few : goal.segment_use-used-requires-clause-few
segment_use-used-requires-clause-few c =
    let own = own_limits c.args.wiring.now c.as_slice-segment-items.result.now c.loop-segment.segment-index c.segment-item.result c.as_slice-segment-items.ensures c.requires.limits c.loop-segment-test.true c.segment-item.is in
    omega (arith, own.few, c.split_at.ensures.front_len, c.len.ensures)

pub segment_use-used-requires-clause-slow : goal.segment_use-used-requires-clause-slow
segment_use-used-requires-clause-slow c =
    (own_limits c.args.wiring.now c.as_slice-segment-items.result.now c.loop-segment.segment-index c.segment-item.result c.as_slice-segment-items.ensures c.requires.limits c.loop-segment-test.true c.segment-item.is).slow

-- this segment's use, and that of those after it
step : (c : After-segment_use-used) → cut_use c.args.first.now (cables (drop c.loop-segment.segment-index c.as_slice-segment-items.result.now) c.loop-segment.rest.now)
    ≡ c.segment_use-used.result + cut_use c.args.first.now (cables (drop (c.loop-segment.segment-index + 1) c.as_slice-segment-items.result.now) c.split_at.result.1.now)
step c =
    let s = c.segment-item.result in
    let later = drop (c.loop-segment.segment-index + 1) c.as_slice-segment-items.result.now in
    let from = use_from c.args.first.now c.as_slice-segment-items.result.now c.loop-segment.segment-index s c.loop-segment.rest.now c.loop-segment-test.true c.segment-item.is in
    let front : take (length s.ends) c.loop-segment.rest.now ≡ c.split_at.result.0.now = sym (c.split_at.ensures.front ∙ ap (λ (n : ℕ). take n c.loop-segment.rest.now) c.len.ensures) in
    let back : drop (length s.ends) c.loop-segment.rest.now ≡ c.split_at.result.1.now = sym (c.split_at.ensures.back ∙ ap (λ (n : ℕ). drop n c.loop-segment.rest.now) c.len.ensures) in
    let own : cable_use c.args.first.now (record { segment = s; plugs = take (length s.ends) c.loop-segment.rest.now }) ≡ c.segment_use-used.result = ap (λ (l : List IfaceId). cable_use c.args.first.now (record { segment = s; plugs = l })) front ∙ sym c.segment_use-used.ensures in
    from ∙ (λ i. own i + cut_use c.args.first.now (cables later (back i)))

pub overflow_add-used : goal.overflow_add-used
overflow_add-used c = omega (arith, step c, c.loop-segment.invariant.so_far, whole_bound c.args.first.now c.args.wiring.now c.args.self.now.plugs c.requires.limits)

pub loop-segment-preserved : goal.loop-segment-preserved
loop-segment-preserved c =
    let ends = ends_from c.as_slice-segment-items.result.now c.loop-segment.segment-index c.segment-item.result c.loop-segment-test.true c.segment-item.is in
    record {
      so_far = omega (arith, step c, c.loop-segment.invariant.so_far);
      plugged = omega (arith, ends, c.len.ensures, c.loop-segment.invariant.plugged, c.split_at.ensures.back_len);
      within = subst (λ (l : List IfaceId). All (λ i. i.0 < length c.args.first.now) l) (sym c.split_at.ensures.back) (All-drop (λ i. i.0 < length c.args.first.now) c.len.result c.loop-segment.rest.now c.loop-segment.invariant.within);
    }

pub returns : goal.returns
returns c =
    let none = no_use c.args.first.now c.as_slice-segment-items.result.now c.loop-segment.segment-index c.loop-segment.rest.now (omega arith) in
    omega (arith, none, c.loop-segment.invariant.so_far)
