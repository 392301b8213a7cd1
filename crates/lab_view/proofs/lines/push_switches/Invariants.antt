use Rattle.std.proofs.Common.{◌≡◌, ◌++◌}
use Rattle.std.specs.List.{flat_map, range_with_len}
use Rattle.lab_view.specs.Lines.{switch_lines}
use Rattle.lab_view.proofs.lines.push_switches.Given as goal

abbrev pub invariant-loop-switch : goal.invariant-loop-switch
invariant-loop-switch l = l.text ≡ l.initial.text ++ flat_map (switch_lines l.view) (range_with_len 0 l.switch)
