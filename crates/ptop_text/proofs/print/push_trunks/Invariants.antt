use Rattle.std.proofs.Common.{◌≡◌, ◌++◌, map, take}
use Rattle.ptop_text.specs.Canonical.{trunk_line}
use Rattle.line_text.specs.Printing.{text_of}
use Rattle.ptop_text.proofs.print.push_trunks.Given as goal

abbrev pub invariant-loop-trunk : goal.invariant-loop-trunk
invariant-loop-trunk l = l.text ≡ l.initial.text ++ text_of (map (trunk_line l.lab) (take l.trunk-index l.lab.trunks))
