use Rattle.std.proofs.Common.{◌≡◌, ◌++◌, map, take}
use Rattle.ptop_text.specs.Canonical.{iface_line}
use Rattle.line_text.specs.Printing.{text_of}
use Rattle.ptop_text.proofs.print.push_ifaces.Given as goal

abbrev pub invariant-loop-iface : goal.invariant-loop-iface
invariant-loop-iface l = l.text ≡ l.initial.text ++ text_of (map (iface_line l.lab) (take l.iface-index l.lab.ifaces))
