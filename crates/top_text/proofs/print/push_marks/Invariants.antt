use Rattle.std.proofs.Common.{◌≡◌, ◌++◌, take}
use Rattle.std.specs.List.{flat_map}
use Rattle.line_text.specs.Printing.{text_of}
use Rattle.top_text.specs.Canonical.{multiplex_lines}
use Rattle.top_text.proofs.print.push_marks.Given as goal

abbrev pub invariant-loop-segment : goal.invariant-loop-segment
invariant-loop-segment l = l.text ≡ l.initial.text ++ text_of (flat_map multiplex_lines (take l.segment-index l.segments))
