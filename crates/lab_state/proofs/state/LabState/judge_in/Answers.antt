use Rattle.std.proofs.Common.{sym, subst}
use Rattle.virt_topo.specs.Wirings.{mapped}
use Rattle.journal_rec.specs.declared.record.Record.TheVariants.{Begin}
use Rattle.journal_rec.specs.declared.record.Way.TheVariants.{In}
use Rattle.virt_topo.specs.Soundness.{IsSound}
use Rattle.lab_state.specs.Kept.{IsKept, state_of}
use Rattle.lab_state.specs.Judged.{IsJudged, IsTaken}
use Rattle.lab_state.proofs.BeginLaws.{own_found}
use Rattle.lab_state.proofs.SwapLaws.{own_text, judged_in}
use Rattle.lab_state.proofs.state.LabState.judge_in.Goals as goal

pub mapping_of-requires-clause-wiring : goal.mapping_of-requires-clause-wiring
mapping_of-requires-clause-wiring c =
    let es = c.self.inside.experiments.list in
    let kept = subst (λ p. IsKept p es) c.in-Some.is c.self.invariant in
    own_text c.in-Some.claimed_lab es c.args.exp c.in-Some-named.experiment.now kept (sym c.in-Some-named.ensures)

pub take-requires-clause-kept : goal.take-requires-clause-kept
take-requires-clause-kept c =
    let es = c.self.inside.experiments.list in
    let kept = subst (λ p. IsKept p es) c.in-Some.is c.self.invariant in
    (es, kept, own_found c.in-Some.claimed_lab es c.args.exp c.in-Some-named.experiment.now kept (sym c.in-Some-named.ensures))

pub take-requires-clause-sound : goal.take-requires-clause-sound
take-requires-clause-sound c =
    let es = c.self.inside.experiments.list in
    let kept = subst (λ p. IsKept p es) c.in-Some.is c.self.invariant in
    let text = own_text c.in-Some.claimed_lab es c.args.exp c.in-Some-named.experiment.now kept (sym c.in-Some-named.ensures) in
    subst (λ w. IsSound w) (sym c.in_ok-wiring.ensures) text.sound

pub returns : goal.returns
returns c =
    let claimed_lab = c.in-Some.claimed_lab in
    let e = c.in-Some-named.experiment.now in
    let es = c.self.inside.experiments.list in
    let found = sym c.in-Some-named.ensures in
    let kept = subst (λ p. IsKept p es) c.in-Some.is c.self.invariant in
    let m = c.in_ok-mapping.mapping in
    let own = own_found claimed_lab es c.args.exp e kept found in
    let taken = subst (λ w. IsTaken claimed_lab.lab es e (mapped w m c.args.tags.now) c.take.result) c.in_ok-wiring.ensures
    (subst (λ t. IsTaken claimed_lab.lab es e (mapped c.in_ok-wiring.wiring m t) c.take.result) c.in_ok-tags.ensures (c.take.ensures es kept own)) in
    let judged = judged_in claimed_lab es c.args.exp e kept found c.args.map.now c.args.tags.now m c.take.result (sym c.if-not-is_out.ensures) c.in_ok-mapping.ensures.ok.0 c.in_ok-mapping.ensures.ok.1 taken in
    rw (← c.self.view_is) (subst (λ p. IsJudged (state_of p es) (Begin c.args.exp (In c.args.map.now c.args.tags.now)) c.take.result) (sym c.in-Some.is) judged)
