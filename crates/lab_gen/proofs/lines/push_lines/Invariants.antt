use Rattle.std.proofs.Common.{◌≡◌, ◌++◌, map}
use Rattle.lab_gen.specs.Lines.{line_of}
use Rattle.lab_gen.specs.Script.{numbers, text_of}
use Rattle.lab_gen.proofs.lines.push_lines.Given as goal

abbrev pub invariant-loop-place : goal.invariant-loop-place
invariant-loop-place l = l.text ≡ l.fn.text ++ text_of (map (line_of l.line) (numbers l.first l.place))
