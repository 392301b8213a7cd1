use Rattle.std.proofs.lemmas.Result.{err_from_is_err_and}
use Rattle.journal_rec.specs.Reading.{each_at}
use Rattle.journal_rec.proofs.Loops.{goes_on, ends, is_done}
use Rattle.journal_rec.proofs.reading.each_of.Goals as goal

pub returns-in_err-tag : goal.returns-in_err-tag
returns-in_err-tag c =
    let p = err_from_is_err_and c.from_residual.result c.from_residual.ensures.1 in
    rw (p.1, p.2) (ends c.in_err-tag.field-0.0 c.loop.tags c.args.count c.loop.counter c.loop.rest.now (each_at c.args.count c.args.bytes.now) c.loop-test.true c.in_err-tag.ensures c.loop.invariant)

pub loop-preserved : goal.loop-preserved
loop-preserved c =
    rw c.in_ok-push.ensures.ok (goes_on c.loop.tags c.args.count c.loop.counter c.loop.rest.now c.in_ok-tag.tag c.in_ok-tag.after.now (each_at c.args.count c.args.bytes.now) c.loop-test.true c.in_ok-tag.ensures c.loop.invariant)

pub returns : goal.returns
returns c = is_done c.loop.tags c.args.count c.loop.counter c.loop.rest.now (each_at c.args.count c.args.bytes.now) c.loop-test.false c.loop.invariant
