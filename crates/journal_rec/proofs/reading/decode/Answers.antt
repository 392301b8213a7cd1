use Rattle.std.proofs.Common.{arith}
use Rattle.journal_rec.proofs.Again.{read_as, is_payload, is_short, no_payload}
use Rattle.journal_rec.proofs.reading.decode.Goals as goal

pub returns-clause-ok : goal.returns-clause-ok
returns-clause-ok c = is_payload c.args.bytes.now c.all.result (λ i. omega (arith, c.type_inv.bytes i)) c.all.ensures

pub returns-clause-back : goal.returns-clause-back
returns-clause-back c entry decodes = read_as c.args.bytes.now entry c.all.result decodes c.all.ensures

pub returns-clause-bad : goal.returns-clause-bad
returns-clause-bad c bad entry decodes = no_payload entry c.all.result bad (read_as c.args.bytes.now entry c.all.result decodes c.all.ensures)

pub returns-clause-short : goal.returns-clause-short
returns-clause-short c = is_short c.args.bytes.now c.all.result (λ i. omega (arith, c.type_inv.bytes i)) c.all.ensures
