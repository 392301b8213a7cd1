use Rattle.std.proofs.Common.{Ok, refl}
use Rattle.lab_base.specs.Texts.{lines_of}
use Rattle.line_text.specs.Reading.{read_from}
use Rattle.line_text.proofs.ReadLaws.{passes_on}
use Rattle.ptop_text.specs.Adding.{added, start, lab_read}
use Rattle.ptop_text.proofs.read.read_ptop.Goals as goal

pub returns-in-Err : goal.returns-in-Err
returns-in-Err c =
    let lines = lines_of c.args.text.now in
    passes_on lab_read c.in-Err.refused c.read_lines.new.so_far (read_from added 1 (Ok start) lines) (λ _. refl)
    (rw (← c.in_ok-so_far.ensures) c.in-Err.ensures.reads)
