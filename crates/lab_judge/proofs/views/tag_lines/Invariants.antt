use Rattle.std.proofs.Common.{◌≡◌, map, take}
use Rattle.std.specs.List.{zip}
use Rattle.lab_judge.specs.Judge.{tag_line}
use Rattle.lab_judge.proofs.views.tag_lines.Given as goal

abbrev pub invariant-loop-number : goal.invariant-loop-number
invariant-loop-number l = l.lines ≡ map tag_line (take l.number (zip l.segments l.tags))
