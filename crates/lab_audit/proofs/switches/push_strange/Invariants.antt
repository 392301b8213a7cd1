use Rattle.std.proofs.Common.{◌≡◌, ◌++◌, take}
use Rattle.std.specs.Prelude.{filter_map}
use Rattle.lab_audit.specs.Lines.{strange_line}
use Rattle.lab_audit.proofs.switches.push_strange.Given as goal

abbrev pub invariant-loop-entry : goal.invariant-loop-entry
invariant-loop-entry l = l.lines.items ≡ l.fn.lines.items ++ filter_map (strange_line l.switch l.wanted) (take l.entry-index l.found)
