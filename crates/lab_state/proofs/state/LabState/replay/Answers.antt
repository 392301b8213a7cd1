use Rattle.std.proofs.Common.{sym, subst}
use Rattle.std.proofs.lemmas.Result.{err_from_is_err_and}
use Rattle.lab_base.specs.Lists.{Has}
use Rattle.lab_base.proofs.Members.{Has-get_or}
use Rattle.lab_state.proofs.ReplayLaws.{followed, stopped_at}
use Rattle.lab_state.proofs.state.LabState.replay.Goals as goal

pub follow-requires : goal.follow-requires
follow-requires c =
    let found = c.index-records-index.result in
    c.requires found (subst (λ f. Has c.args.records.now f) (sym c.index-records-index.is) (Has-get_or c.args.records.now c.loop-index.index found c.loop-index-test.true))

pub loop-index-preserved : goal.loop-index-preserved
loop-index-preserved c =
    followed c.args.records.now c.loop-index.index c.index-records-index.result c.loop-index.lab.state c.follow.new.self.state c.loop-index-test.true c.index-records-index.is c.loop-index.invariant c.in_ok-follow.ensures

pub returns-in_err-follow-clause-bad : goal.returns-in_err-follow-clause-bad
returns-in_err-follow-clause-bad c =
    let p = err_from_is_err_and c.from_residual.result c.from_residual.ensures.1 in
    rw (p.1, p.2) (stopped_at c.args.records.now c.loop-index.index c.index-records-index.result c.loop-index.lab.state c.follow.new.self.state c.in_err-follow.field-0.0 c.loop-index-test.true c.index-records-index.is c.loop-index.invariant c.in_err-follow.ensures)
