use Rattle.std.proofs.Common.{◌≡◌, ◌≤◌, ◌+◌, Ok, length}
use Rattle.lab_base.specs.Texts.{lines_of}
use Rattle.line_text.specs.Reading.{read_from}
use Rattle.line_text.proofs.reading.read_lines.Given as goal

abbrev pub invariant-loop-first : goal.invariant-loop-first
invariant-loop-first g l =
    let reader = g.S.AddLine in
    let add = reader.added l.fn.so_far in
    record {
      reads : read_from add 1 (Ok (reader.contents l.fn.so_far)) (lines_of l.text) ≡ read_from add l.line (Ok (reader.contents l.so_far)) (lines_of l.rest);
      short : l.line + length l.rest ≤ length l.text + 1;
      lines : l.line + length (lines_of l.rest) ≡ length (lines_of l.text) + 1;
      can : reader.can_add l.so_far;
      same : reader.added l.so_far ≡ add;
    }

abbrev pub decreases-loop-first : goal.decreases-loop-first
decreases-loop-first g l = length l.rest
