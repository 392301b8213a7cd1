use Rattle.std.proofs.Common.{◌≡◌, Ok, subst}
use Rattle.lab_base.specs.Texts.{lines_of}
use Rattle.line_text.specs.Reading.{read_from}
use Rattle.line_text.proofs.ReadLaws.{lines_keep}
use Rattle.lab_ahead.specs.declared.batch.Batch.{Batch}
use Rattle.lab_ahead.specs.Batches.{KeepsLimits, added, start}
use Rattle.lab_ahead.proofs.Limits.{line_keeps, start_keeps}
use Rattle.lab_ahead.proofs.read.read_batch.Goals as goal

pub returns-clause-limits : goal.returns-clause-limits
returns-clause-limits c =
    let lines = lines_of c.args.text.now in
    let new = c.read_lines.new.so_far in
    let read : read_from added 1 (Ok start) lines ≡ Ok new = subst (λ (b : Batch). read_from added 1 (Ok b) lines ≡ Ok new) c.start-batch.ensures c.in_ok-read_lines.ensures.reads in
    lines_keep added KeepsLimits line_keeps 1 start new lines start_keeps read
