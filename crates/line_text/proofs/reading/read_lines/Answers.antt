use Rattle.lab_base.specs.Texts.{lines_of}
use Rattle.line_text.proofs.ReadLaws.{ends}
use Rattle.line_text.proofs.reading.read_lines.Goals as goal

pub returns-in-Err-clause-reads : goal.returns-in-Err-clause-reads
returns-in-Err-clause-reads g c =
    let reader = g.S.AddLine in
    let add = reader.added c.args.so_far.now in
    let old = reader.contents c.loop-first.so_far in
    let new = reader.contents c.add_line.new.so_far in
    let first = c.in-Some.first in
    rw c.refusal.ensures
    (ends add c.loop-first.line old new c.in-Err.fault first.line.now _ (lines_of first.rest.now) _ c.loop-first.invariant.reads c.in-Some.ensures.line (rw (← c.loop-first.invariant.same) c.in-Err.ensures.takes))
