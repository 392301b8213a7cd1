use Rattle.std.proofs.Common.{◌≡◌, ◌↔◌, ◌<◌, ℕ, List, length, slice_index_or, None, IfOk, ap, ◌∙◌, subst, arith}
use Rattle.lab_ahead.specs.declared.batch.Promise.{Promise}
use Rattle.lab_ahead.specs.declared.times.Left.{Left}
use Rattle.lab_ahead.specs.Ends.{left_for}
use Rattle.lab_ahead.specs.Moments.{FitsFor}
use Rattle.lab_judge.specs.JudgeRun.{left_beside}
use Rattle.lab_judge.proofs.JudgeRun.{claimers_long}
use Rattle.lab_judge.proofs.run.wait_of.Goals as goal

pub left_for-requires : goal.left_for-requires
left_for-requires c =
    let es = c.args.state.now.state.experiments in
    let are = c.as_slice.ensures ∙ c.in_ok-claimers.ensures in
    omega (arith, ap length are ∙ claimers_long (length c.args.lab.now.nodes) es, c.range-kept.ensures.lab.few_nodes)

pub first_wait-requires-clause-of_lab : goal.first_wait-requires-clause-of_lab
first_wait-requires-clause-of_lab c =
    let es = c.args.state.now.state.experiments in
    let are = c.as_slice.ensures ∙ c.in_ok-claimers.ensures in
    rw c.as_slice-3.ensures
    (λ k d within. subst (λ (n : ℕ). (slice_index_or c.in_ok-left.left k d).node.0 < n) (ap length are ∙ claimers_long (length c.args.lab.now.nodes) es) (c.in_ok-left.ensures.of_lab k d within))

pub returns-clause-fits : goal.returns-clause-fits
returns-clause-fits c =
    let es = c.args.state.now.state.experiments in
    let are = c.as_slice.ensures ∙ c.in_ok-claimers.ensures in
    let left_is : c.as_slice-3.result.now ≡ left_beside c.args.lab.now c.args.state.now.state c.args.queue.now c.args.mapping.now =
    c.as_slice-3.ensures ∙ c.in_ok-left.ensures.left ∙ (λ i. left_for (are i) (c.as_slice-2.ensures i) (c.as_slice-places.ensures i)) in
    subst (λ (p : List Left × List Promise). IfOk c.first_wait.result (λ wait. wait ≡ None ↔ FitsFor c.args.lab.now p.0 p.1 c.args.queue.now.moment c.args.run.now.length)) (λ i. (left_is i, c.as_slice-4.ensures i)) c.first_wait.ensures.fits
