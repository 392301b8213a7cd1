use Rattle.std.proofs.Common.{sym, subst}
use Rattle.journal_rec.specs.declared.record.Record.TheVariants.{Begin}
use Rattle.journal_rec.specs.declared.record.Way.TheVariants.{Out}
use Rattle.lab_state.specs.Kept.{IsKept, state_of}
use Rattle.lab_state.specs.Judged.{CanFollow}
use Rattle.lab_state.proofs.BeginLaws.{standing_suits}
use Rattle.lab_state.proofs.SwapLaws.{judged_out}
use Rattle.lab_state.proofs.state.LabState.judge_out.Goals as goal

pub begin-requires-clause-old : goal.begin-requires-clause-old
begin-requires-clause-old c =
    let es = c.self.inside.experiments.list in
    let kept = subst (λ p. IsKept p es) c.in-Some.is c.self.invariant in
    standing_suits c.in-Some.claimed_lab es c.args.exp c.in-Some-named.experiment.now kept (sym c.in-Some-named.ensures)

pub returns : goal.returns
returns c =
    let es = c.self.inside.experiments.list in
    let kept = subst (λ p. IsKept p es) c.in-Some.is c.self.invariant in
    let inside = c.if-not-is_in.ensures in
    let judged = judged_out c.in-Some.claimed_lab es c.args.exp c.in-Some-named.experiment.now kept (sym c.in-Some-named.ensures) c.in_ok-change.change (sym inside) c.in_ok-change.ensures in
    rw (← c.self.view_is) (subst (λ p. CanFollow (state_of p es) (Begin c.args.exp Out) c.in_ok-change.change) (sym c.in-Some.is) judged)
