use Rattle.std.proofs.Common.{◌≡◌, ◌++◌, map, take}
use Rattle.std.specs.List.{zip}
use Rattle.line_text.specs.Printing.{text_of}
use Rattle.solution_text.specs.CanonicalSolution.{plug_fields}
use Rattle.solution_text.proofs.print.push_plugs.Given as goal

abbrev pub invariant-loop-end : goal.invariant-loop-end
invariant-loop-end l = l.text ≡ l.initial.text ++ text_of (map (plug_fields l.lab l.wiring) (take l.end (zip l.keys l.plugs)))
