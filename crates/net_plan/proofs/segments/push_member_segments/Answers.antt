use Rattle.std.proofs.Common.{◌∙◌, ◌++◌, List, map, ap, arith, None}
use Rattle.std.specs.List.{enumerate_from}
use Rattle.std.proofs.lemmas.List.{take_all}
use Rattle.std.proofs.lemmas.List.FromFn.{length-enumerate_from}
use Rattle.virt_topo.specs.declared.wiring.VirtEnd.{VirtEnd}
use Rattle.net_plan.specs.Parts.{member_segment}
use Rattle.net_plan.proofs.ListLaws.{push_numbered}
use Rattle.net_plan.proofs.segments.push_member_segments.Goals as goal

pub loop-place-preserved : goal.loop-place-preserved
loop-place-preserved c =
    push_numbered (member_segment c.args.lan.now c.args.first) _ _ _ c.as_slice-end-items.result.now c.loop-place.place (record { node = 0; address = None }) _
    c.loop-place-test.true c.loop-place.invariant c.in_ok-push.ensures.ok c.in_ok-member_segment.ensures

pub returns : goal.returns
returns c =
    let g = member_segment c.args.lan.now c.args.first in
    let items = c.as_slice-end-items.result.now in
    let all = take_all c.loop-place.place (enumerate_from 0 items) (omega (arith, length-enumerate_from 0 items)) in
    c.loop-place.invariant
    ∙ (λ i. c.args.segments.now ++ map g (all i))
    ∙ ap (λ (l : List VirtEnd). c.args.segments.now ++ map g (enumerate_from 0 l)) c.as_slice-end-items.ensures
