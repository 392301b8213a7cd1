use Rattle.std.proofs.Common.{◌≤◌, subst, ◌∙◌}
use Rattle.std.proofs.lemmas.Result.{err_from_is_err_and}
use Rattle.records_model.specs.Labs.{create_in}
use Rattle.lab_state.specs.Kept.{state_of}
use Rattle.lab_state.proofs.JudgeLaws.{create_nowhere, create_full, create_twice, create_unread, create_follows, looked_up, unjudged}
use Rattle.lab_state.proofs.state.LabState.judge_create.Goals as goal

pub returns-then-is_none : goal.returns-then-is_none
returns-then-is_none c = rw (← c.self.view_is) (create_nowhere c.self.inside.claimed_lab c.self.inside.experiments.list c.args.exp c.args.text.now c.args.second c.if-is_none.ensures)

pub returns-then-len-ge-MAX_EXPERIMENTS : goal.returns-then-len-ge-MAX_EXPERIMENTS
returns-then-len-ge-MAX_EXPERIMENTS c =
    rw (← c.self.view_is) (create_full c.self.inside.claimed_lab c.self.inside.experiments.list c.args.exp c.args.text.now c.args.second (subst (λ n. 256 ≤ n) c.len.ensures c.if-len-ge-MAX_EXPERIMENTS.true))

pub returns-then-is_some : goal.returns-then-is_some
returns-then-is_some c =
    let es = c.self.inside.experiments.list in
    rw (← c.self.view_is) (create_twice c.self.inside.claimed_lab es c.args.exp c.args.text.now c.args.second (looked_up c.named.result _ c.is_some.result c.named.ensures c.is_some.ensures ∙ c.if-is_some.true))

pub returns-in_err-wiring : goal.returns-in_err-wiring
returns-in_err-wiring c =
    let claimed_lab = c.self.inside.claimed_lab in
    let es = c.self.inside.experiments.list in
    let text = c.args.text.now in
    let p = err_from_is_err_and c.from_residual.result c.from_residual.ensures.1 in
    rw (← c.self.view_is, p.1, p.2) (unjudged (state_of claimed_lab es) (create_in c.args.second c.args.exp text) c.in_err-wiring.field-0.0 _ c.in_err-wiring.ensures.bad (create_unread claimed_lab es c.args.exp text c.args.second))

pub returns : goal.returns
returns c =
    let claimed_lab = c.self.inside.claimed_lab in
    let es = c.self.inside.experiments.list in
    let new = looked_up c.named.result _ c.is_some.result c.named.ensures c.is_some.ensures ∙ c.if-is_some.false in
    rw (← c.self.view_is) (create_follows claimed_lab es c.args.exp c.args.text.now c.args.second c.in_ok-wiring.wiring c.if-is_none.ensures (rw c.len.ensures at c.if-len-ge-MAX_EXPERIMENTS.false) new c.in_ok-wiring.ensures.ok)
