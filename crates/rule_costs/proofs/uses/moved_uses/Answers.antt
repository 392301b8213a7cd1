use Rattle.std.proofs.Common.{◌≡◌, ◌∙◌, ◌<◌, ℕ, List, length, All, sym, ap, subst, arith}
use Rattle.std.proofs.lemmas.List.Elements.{All-drop}
use Rattle.lab_base.specs.declared.ids.IfaceId.{IfaceId}
use Rattle.virt_topo.specs.declared.wiring.Segment.{Segment}
use Rattle.virt_topo.specs.Ends.{end_nodes}
use Rattle.virt_topo.specs.Cables.{cables}
use Rattle.virt_topo.proofs.EndLaws.{ends_from}
use Rattle.cost_rule.specs.Cost.{trunk_uses}
use Rattle.cost_rule.proofs.PartLaws.{uses_small}
use Rattle.rule_costs.specs.Uses.{uses_of_all}
use Rattle.rule_costs.proofs.UseLaws.{uses_split, uses_whole}
use Rattle.rule_costs.proofs.uses.moved_uses.Goals as goal

pub loop-segment-init : goal.loop-segment-init
loop-segment-init c =
    let lab = c.args.lab.now in
    let w = c.args.wiring.now in
    let segments = c.as_slice-segment-items.ensures in
    let old = c.as_slice-old.ensures in
    let new = c.as_slice-new.ensures in
    let first : ◌≡◌ {A = ℕ} (uses_of_all lab (cables c.as_slice-segment-items.result.now c.as_slice-old.result.now)) (trunk_uses lab w c.args.from.now) =
    (λ i. uses_of_all lab (cables (segments i) (old i))) ∙ uses_whole lab w c.args.from.now c.requires.from.in_lab in
    let second : ◌≡◌ {A = ℕ} (uses_of_all lab (cables c.as_slice-segment-items.result.now c.as_slice-new.result.now)) (trunk_uses lab w c.args.to.now) =
    (λ i. uses_of_all lab (cables (segments i) (new i))) ∙ uses_whole lab w c.args.to.now c.requires.to.in_lab in
    record {
      difference = omega (arith, first, second);
      before = omega (arith, first);
      after = omega (arith, second);
      old_plugged = ap (λ (l : List IfaceId). length l) old ∙ c.requires.from.plugs ∙ sym (ap (λ (l : List Segment). length (end_nodes l)) segments);
      new_plugged = ap (λ (l : List IfaceId). length l) new ∙ c.requires.to.plugs ∙ sym (ap (λ (l : List Segment). length (end_nodes l)) segments);
      old_within = subst (λ (l : List IfaceId). All (λ i. i.0 < length lab.ifaces) l) (sym old) c.requires.from.in_lab;
      new_within = subst (λ (l : List IfaceId). All (λ i. i.0 < length lab.ifaces) l) (sym new) c.requires.to.in_lab;
    }

pub overflow_add-before : goal.overflow_add-before
overflow_add-before c =
    let small = uses_small c.args.lab.now c.args.wiring.now c.args.from.now c.range-kept.ensures.lab c.requires.sound c.requires.from in
    let moved = c.moved_segment-moved.ensures.before in
    let old = uses_split c.args.lab.now c.as_slice-segment-items.result.now c.loop-segment.segment-index c.segment-item.result c.len.result c.loop-segment.old.now c.split_at.result.0.now c.split_at.result.1.now
    c.loop-segment-test.true c.segment-item.is c.len.ensures c.split_at.ensures.front c.split_at.ensures.back in
    omega (arith, old, c.loop-segment.invariant.before, moved, small)

pub overflow_add-after : goal.overflow_add-after
overflow_add-after c =
    let small = uses_small c.args.lab.now c.args.wiring.now c.args.to.now c.range-kept.ensures.lab c.requires.sound c.requires.to in
    let moved = c.moved_segment-moved.ensures.after in
    let new = uses_split c.args.lab.now c.as_slice-segment-items.result.now c.loop-segment.segment-index c.segment-item.result c.len-in-loop-segment.result c.loop-segment.new.now c.split_at-in-loop-segment.result.0.now c.split_at-in-loop-segment.result.1.now
    c.loop-segment-test.true c.segment-item.is c.len-in-loop-segment.ensures c.split_at-in-loop-segment.ensures.front c.split_at-in-loop-segment.ensures.back in
    omega (arith, new, c.loop-segment.invariant.after, moved, small)

pub loop-segment-preserved : goal.loop-segment-preserved
loop-segment-preserved c =
    let lab = c.args.lab.now in
    let known = c.loop-segment.invariant in
    let moved = c.moved_segment-moved.ensures in
    let old = uses_split c.args.lab.now c.as_slice-segment-items.result.now c.loop-segment.segment-index c.segment-item.result c.len.result c.loop-segment.old.now c.split_at.result.0.now c.split_at.result.1.now
    c.loop-segment-test.true c.segment-item.is c.len.ensures c.split_at.ensures.front c.split_at.ensures.back in
    let new = uses_split c.args.lab.now c.as_slice-segment-items.result.now c.loop-segment.segment-index c.segment-item.result c.len-in-loop-segment.result c.loop-segment.new.now c.split_at-in-loop-segment.result.0.now c.split_at-in-loop-segment.result.1.now
    c.loop-segment-test.true c.segment-item.is c.len-in-loop-segment.ensures c.split_at-in-loop-segment.ensures.front c.split_at-in-loop-segment.ensures.back in
    let ends = ends_from c.as_slice-segment-items.result.now c.loop-segment.segment-index c.segment-item.result c.loop-segment-test.true c.segment-item.is in
    record {
      difference = omega (arith, old, new, moved.difference, known.difference);
      before = omega (arith, old, moved.before, known.before);
      after = omega (arith, new, moved.after, known.after);
      old_plugged = omega (arith, ends, c.len.ensures, known.old_plugged, c.split_at.ensures.back_len);
      new_plugged = omega (arith, ends, c.len-in-loop-segment.ensures, known.new_plugged, c.split_at-in-loop-segment.ensures.back_len);
      old_within = subst (λ (l : List IfaceId). All (λ i. i.0 < length lab.ifaces) l) (sym c.split_at.ensures.back) (All-drop (λ i. i.0 < length lab.ifaces) c.len.result c.loop-segment.old.now known.old_within);
      new_within = subst (λ (l : List IfaceId). All (λ i. i.0 < length lab.ifaces) l) (sym c.split_at-in-loop-segment.ensures.back) (All-drop (λ i. i.0 < length lab.ifaces) c.len-in-loop-segment.result c.loop-segment.new.now known.new_within);
    }
