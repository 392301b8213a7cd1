use Rattle.std.proofs.Common.{Some, Err, sym, subst}
use Rattle.std.proofs.lemmas.Result.{err_from_is_err_and}
use Rattle.virt_topo.specs.Wirings.{mapped}
use Rattle.journal_rec.specs.declared.record.Record.TheVariants.{Begin}
use Rattle.records_model.specs.Labs.{change_in}
use Rattle.lab_state.specs.Kept.{IsKept, state_of}
use Rattle.lab_state.specs.Judged.{IsJudged, IsTaken}
use Rattle.lab_state.proofs.BeginLaws.{own_found}
use Rattle.lab_state.proofs.SwapLaws.{change_unread, judged_change}
use Rattle.lab_state.proofs.JudgeLaws.{unjudged}
use Rattle.lab_state.proofs.state.LabState.judge_change.Goals as goal

pub take-requires-clause-kept : goal.take-requires-clause-kept
take-requires-clause-kept c =
    let es = c.self.inside.experiments.list in
    let kept = subst (λ p. IsKept p es) c.in-Some.is c.self.invariant in
    (es, kept, own_found c.in-Some.claimed_lab es c.args.exp c.in-Some-named.experiment.now kept (sym c.in-Some-named.ensures))

pub returns-in_err-mapping : goal.returns-in_err-mapping
returns-in_err-mapping c =
    let claimed_lab = c.in-Some.claimed_lab in
    let es = c.self.inside.experiments.list in
    let kept = subst (λ p. IsKept p es) c.in-Some.is c.self.invariant in
    let entry = Begin c.args.exp (change_in c.args.second c.args.top.now c.args.map.now c.args.tags.now) in
    let fault = c.in_err-mapping.field-0.0 in
    let p = err_from_is_err_and c.from_residual-in_err-mapping.result c.from_residual-in_err-mapping.ensures.1 in
    let judged = unjudged (state_of (Some claimed_lab) es) entry fault _ c.in_err-mapping.ensures.bad
    (change_unread claimed_lab es c.args.exp c.in-Some-named.experiment.now kept (sym c.in-Some-named.ensures) c.args.top.now c.args.map.now c.args.tags.now c.args.second c.in_ok-wiring.wiring c.in_ok-wiring.ensures.ok) in
    rw (← c.self.view_is, p.1, p.2) (subst (λ p. IsJudged (state_of p es) entry (Err fault)) (sym c.in-Some.is) judged)

pub returns : goal.returns
returns c =
    let claimed_lab = c.in-Some.claimed_lab in
    let e = c.in-Some-named.experiment.now in
    let es = c.self.inside.experiments.list in
    let found = sym c.in-Some-named.ensures in
    let kept = subst (λ p. IsKept p es) c.in-Some.is c.self.invariant in
    let w = c.in_ok-wiring.wiring in
    let m = c.in_ok-mapping.mapping in
    let own = own_found claimed_lab es c.args.exp e kept found in
    let taken = subst (λ t. IsTaken claimed_lab.lab es e (mapped w m t) c.take.result) c.in_ok-tags.ensures (c.take.ensures es kept own) in
    let judged = judged_change claimed_lab es c.args.exp e kept found c.args.top.now c.args.map.now c.args.tags.now c.args.second w m c.take.result (sym c.if-not-is_in.ensures) c.in_ok-wiring.ensures.ok
    c.in_ok-mapping.ensures.ok.0 c.in_ok-mapping.ensures.ok.1 taken in
    rw (← c.self.view_is) (subst (λ p. IsJudged (state_of p es) (Begin c.args.exp (change_in c.args.second c.args.top.now c.args.map.now c.args.tags.now)) c.take.result) (sym c.in-Some.is) judged)
