use Rattle.std.proofs.Common.{◌≡◌, ◌+◌, cond, get_or, take, ap, arith, ◌∙◌}
use Rattle.std.proofs.lemmas.List.Sums.{sum_by_more}
use Rattle.phys_lab.specs.Keys.{has_name}
use Rattle.lab_ahead.specs.declared.fitting.Need.{Need}
use Rattle.lab_ahead.specs.Givings.{need_of}
use Rattle.lab_ahead.proofs.waits.need_of.Goals as goal

pub loop-need-preserved : goal.loop-need-preserved
loop-need-preserved c =
    let needs = c.args.needs.now in
    let kinds = c.args.kinds.now in
    let i = c.loop-need.need-index in
    let item = get_or needs i c.need-item.result in
    let more : need_of (take (i + 1) needs) kinds ≡ need_of (take i needs) kinds + cond (has_name kinds item.kind) item.count 0 =
    sum_by_more (λ (need : Need). cond (has_name kinds need.kind) need.count 0) needs i c.need-item.result c.loop-need-test.true in
    let here = c.count_of-sum.ensures.is ∙ ap (λ (need : Need). cond (has_name kinds need.kind) need.count 0) c.need-item.is in
    record { is = omega (arith, more, here, c.loop-need.invariant.is); small = omega (arith, c.loop-need.invariant.small, c.count_of-sum.ensures.small) }
