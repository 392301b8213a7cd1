use Rattle.std.proofs.Common.{◌≡◌, ◌++◌, take}
use Rattle.std.specs.Prelude.{filter_map}
use Rattle.lab_audit.specs.Lines.{lacking_line}
use Rattle.lab_audit.proofs.switches.push_lacking.Given as goal

abbrev pub invariant-loop-row : goal.invariant-loop-row
invariant-loop-row l = l.lines.items ≡ l.fn.lines.items ++ filter_map (lacking_line l.switch l.found) (take l.row-index l.wanted)
