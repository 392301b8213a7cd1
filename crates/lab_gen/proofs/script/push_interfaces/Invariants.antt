use Rattle.std.proofs.Common.{◌≡◌, ◌++◌}
use Rattle.std.specs.List.{flat_map}
use Rattle.lab_gen.specs.Script.{numbers, interface_lines, text_of}
use Rattle.lab_gen.proofs.script.push_interfaces.Given as goal

abbrev pub invariant-loop-place : goal.invariant-loop-place
invariant-loop-place l = l.text ≡ l.fn.text ++ text_of (flat_map interface_lines (numbers 1 l.place))
