use Rattle.std.proofs.Common.{◌≡◌, ◌++◌, map, take}
use Rattle.line_text.specs.Printing.{text_of}
use Rattle.top_text.specs.Canonical.{pipe_fields}
use Rattle.top_text.proofs.print.push_pipes.Given as goal

abbrev pub invariant-loop-pipe : goal.invariant-loop-pipe
invariant-loop-pipe l = l.text ≡ l.initial.text ++ text_of (map (pipe_fields l.wiring) (take l.pipe-index l.pipes))
