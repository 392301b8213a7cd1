use Rattle.std.proofs.Common.{◌≡◌, ◌++◌, map, take}
use Rattle.ptop_text.specs.Canonical.{switch_line}
use Rattle.line_text.specs.Printing.{text_of}
use Rattle.ptop_text.proofs.print.push_switches.Given as goal

abbrev pub invariant-loop-name : goal.invariant-loop-name
invariant-loop-name l = l.text ≡ l.initial.text ++ text_of (map switch_line (take l.name-index l.switches))
