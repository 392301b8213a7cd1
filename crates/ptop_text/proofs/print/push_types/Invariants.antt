use Rattle.std.proofs.Common.{◌≡◌, ◌++◌, map, take}
use Rattle.line_text.specs.Printing.{spaced, with_number}
use Rattle.ptop_text.proofs.print.push_types.Given as goal

abbrev pub invariant-loop-kind : goal.invariant-loop-kind
invariant-loop-kind l = l.text ≡ l.initial.text ++ spaced (map with_number (take l.kind-index l.types))
