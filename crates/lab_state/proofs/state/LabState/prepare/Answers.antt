use Rattle.std.proofs.Common.{sym, subst}
use Rattle.std.proofs.lemmas.Result.{err_from_is_err_and}
use Rattle.records_model.specs.Labs.{Sane}
use Rattle.records_model.proofs.LabLaws.{follows_sane}
use Rattle.lab_state.specs.Texts.{the_texts}
use Rattle.lab_state.specs.Changes.{Fits, after}
use Rattle.lab_state.proofs.JudgeLaws.{bad_is}
use Rattle.lab_state.proofs.state.LabState.prepare.Goals as goal

pub returns-in_err-change-clause-bad : goal.returns-in_err-change-clause-bad
returns-in_err-change-clause-bad c =
    let p = err_from_is_err_and c.from_residual.result c.from_residual.ensures.1 in
    rw (p.1, p.2) (bad_is c.args.self.now.state c.args.entry.now c.in_err-change.field-0.0 c.in_err-change.ensures.judged)

pub returns-in-Ok-clause-enters : goal.returns-in-Ok-clause-enters
returns-in-Ok-clause-enters c =
    let s = c.args.self.now.state in
    let change = c.in_ok-change.change in
    let judged = c.in_ok-change.ensures.judged in
    let same = sym c.make_room.ensures.state in
    record {
      fits = subst (λ x. Fits x change) same judged.fits;
      sane = subst (λ x. Sane (after x change)) same (follows_sane the_texts s c.args.entry.now (after s change) c.judge.ensures.sane judged.follows);
      room = c.in-Ok.ensures.room;
    }
