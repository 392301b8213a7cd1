use Rattle.std.proofs.Common.{ap, arith}
use Rattle.std.proofs.lemmas.List.Sums.{sum_by_more}
use Rattle.lab_base.proofs.Members.{Has-at}
use Rattle.net_plan.specs.Parts.{delays}
use Rattle.net_plan.proofs.Counts.{few_delays}
use Rattle.net_plan.proofs.limits.count_delays.Goals as goal

pub overflow_add-count : goal.overflow_add-count
overflow_add-count c =
    let item = c.link-item.result in
    let few = few_delays item (c.requires.expandable item (Has-at c.args.links.now c.loop-link.link-index item c.loop-link-test.true c.link-item.is)) in
    omega (arith, few, c.loop-link.invariant.few)

pub loop-link-preserved : goal.loop-link-preserved
loop-link-preserved c =
    let item = c.link-item.result in
    let few = few_delays item (c.requires.expandable item (Has-at c.args.links.now c.loop-link.link-index item c.loop-link-test.true c.link-item.is)) in
    let more = sum_by_more delays c.args.links.now c.loop-link.link-index item c.loop-link-test.true in
    record { count = omega (arith, more, ap delays c.link-item.is, c.delays-count.ensures, c.loop-link.invariant.count); few = omega (arith, few, c.loop-link.invariant.few) }
