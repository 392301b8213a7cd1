use Rattle.std.proofs.Common.{List, length, ap, sym, arith, below_more, ◌∙◌}
use Rattle.virt_topo.specs.declared.wiring.Segment.{Segment}
use Rattle.virt_topo.specs.Ends.{end_nodes}
use Rattle.virt_topo.specs.Loads.{loads_from}
use Rattle.virt_topo.proofs.LoadLaws.{length-loads}
use Rattle.lab_model.specs.Rules.{keeps_f5, no_load}
use Rattle.lab_model.proofs.FirstViolation.{first_at, none_at}
use Rattle.feas.proofs.LoadLists.{few_segments, kept_is}
use Rattle.feas.proofs.plugs.first_misplugged.Goals as goal

pub loads_of-requires : goal.loads_of-requires
loads_of-requires c = let few = few_segments c.args.wiring.now c.requires.sound in let same = ap length c.as_slice-2.ensures in omega (arith, few, same)

pub keeps_f5-requires-clause-loads : goal.keeps_f5-requires-clause-loads
keeps_f5-requires-clause-loads c =
    ap length (c.deref.ensures.value ∙ c.in_ok-loads.ensures) ∙ ap (λ (l : List Segment). length (loads_from 0 l)) c.as_slice-2.ensures ∙ length-loads 0 c.args.wiring.now.segments ∙ sym c.requires.shaped.plugs

pub returns-then-not-keeps_f5-clause-first : goal.returns-then-not-keeps_f5-clause-first
returns-then-not-keeps_f5-clause-first c =
    let kept = kept_is c.args.lab.now c.args.wiring.now c.args.mapping.now c.loop-end.end c.index.result.now c.in_ok-nodes.nodes.items c.deref.result.now c.keeps_f5.result
    (c.in_ok-nodes.ensures ∙ ap (λ (l : List Segment). end_nodes l) c.as_slice.ensures) ((c.deref.ensures.value ∙ c.in_ok-loads.ensures) ∙ ap (λ (l : List Segment). loads_from 0 l) c.as_slice-2.ensures)
    (omega (arith, c.requires.shaped.plugs, c.len-end-end.ensures)) c.index.ensures (c.keeps_f5.ensures no_load) in
    first_at _ (keeps_f5 c.args.lab.now c.args.wiring.now c.args.mapping.now) c.loop-end.end c.keeps_f5.result (omega arith) kept c.if-not-keeps_f5.true c.loop-end.invariant

pub loop-end-preserved : goal.loop-end-preserved
loop-end-preserved c =
    let kept = kept_is c.args.lab.now c.args.wiring.now c.args.mapping.now c.loop-end.end c.index.result.now c.in_ok-nodes.nodes.items c.deref.result.now c.keeps_f5.result
    (c.in_ok-nodes.ensures ∙ ap (λ (l : List Segment). end_nodes l) c.as_slice.ensures) ((c.deref.ensures.value ∙ c.in_ok-loads.ensures) ∙ ap (λ (l : List Segment). loads_from 0 l) c.as_slice-2.ensures)
    (omega (arith, c.requires.shaped.plugs, c.len-end-end.ensures)) c.index.ensures (c.keeps_f5.ensures no_load) in
    below_more _ _ c.loop-end.invariant (sym kept ∙ c.if-not-keeps_f5.false)

pub returns-clause-first : goal.returns-clause-first
returns-clause-first c = none_at _ (keeps_f5 c.args.lab.now c.args.wiring.now c.args.mapping.now) c.loop-end.end (omega arith) c.loop-end.invariant
