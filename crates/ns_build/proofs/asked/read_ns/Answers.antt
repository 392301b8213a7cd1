use Rattle.std.proofs.Common.{length-take-le, arith}
use Rattle.std.proofs.lemmas.Result.{err_from_is_err_and}
use Rattle.ns_build.proofs.Meanings.{stopped, ended, failed, too_long, no_memory}
use Rattle.ns_build.proofs.asked.read_ns.Goals as goal

pub line_of-requires : goal.line_of-requires
line_of-requires c = omega (arith, length-take-le 65537 c.args.text.now (omega (arith, c.if-text-gt-MAX_TEXT.true)))

pub returns-then-text-gt-MAX_TEXT-clause-meaning : goal.returns-then-text-gt-MAX_TEXT-clause-meaning
returns-then-text-gt-MAX_TEXT-clause-meaning c = rw c.refused.ensures (too_long c.args.text.now c.line_of.result c.if-text-gt-MAX_TEXT.true c.line_of.ensures)

pub returns-in_err-interp-clause-meaning : goal.returns-in_err-interp-clause-meaning
returns-in_err-interp-clause-meaning c =
    let p = err_from_is_err_and c.from_residual.result c.from_residual.ensures.1 in
    rw (p.1, p.2) (no_memory c.args.text.now)

pub returns-in_err-line-clause-meaning : goal.returns-in_err-line-clause-meaning
returns-in_err-line-clause-meaning c =
    let p = err_from_is_err_and c.from_residual-in_err-line.result c.from_residual-in_err-line.ensures.1 in
    rw (p.1, p.2) (failed c.args.text.now c.new.result c.in_ok-interp.interp _ c.new.ensures c.in_ok-interp.ensures c.in_err-line.field-0.0 (omega arith) c.in_err-line.ensures.runs)

pub returns-in_err-events-in-Stopped-clause-meaning : goal.returns-in_err-events-in-Stopped-clause-meaning
returns-in_err-events-in-Stopped-clause-meaning c =
    let p = err_from_is_err_and c.from_residual-in_err-events-in-Stopped.result c.from_residual-in_err-events-in-Stopped.ensures.1 in
    rw (p.1, p.2) (no_memory c.args.text.now)

pub returns-in_ok-events-in-Stopped-clause-meaning : goal.returns-in_ok-events-in-Stopped-clause-meaning
returns-in_ok-events-in-Stopped-clause-meaning c =
    stopped c.args.text.now c.new.result c.in_ok-interp.interp _ c.new.ensures c.in_ok-interp.ensures c.in_ok-line.field-0 c.in-Stopped.line c.into_topo.result c.in_ok-events-in-Stopped.events (omega arith) c.in-Stopped.is
    (rw c.into_host-host.ensures at c.into_topo.ensures) (rw c.into_host-host.ensures at c.in_ok-events-in-Stopped.ensures.events) c.in_ok-line.ensures.runs

pub returns-in-Ended-clause-meaning : goal.returns-in-Ended-clause-meaning
returns-in-Ended-clause-meaning c =
    rw c.refused-in-Ended.ensures (ended c.args.text.now c.new.result c.in_ok-interp.interp _ c.new.ensures c.in_ok-interp.ensures c.in_ok-line.field-0 c.in-Ended.line (omega arith) c.in-Ended.is c.in_ok-line.ensures.runs)
