use Rattle.std.proofs.Common.{◌≡◌, ◌++◌, map, take}
use Rattle.line_text.specs.Printing.{spaced, with_number}
use Rattle.ptop_text.proofs.print.push_features.Given as goal

abbrev pub invariant-loop-feature : goal.invariant-loop-feature
invariant-loop-feature l = l.text ≡ l.initial.text ++ spaced (map with_number (take l.feature-index l.features))
