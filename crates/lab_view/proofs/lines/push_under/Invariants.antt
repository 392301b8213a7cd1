use Rattle.std.proofs.Common.{◌≡◌, ◌++◌, take}
use Rattle.std.specs.List.{flat_map}
use Rattle.lab_view.specs.Lines.{line_under}
use Rattle.lab_view.proofs.lines.push_under.Given as goal

abbrev pub invariant-loop-machine : goal.invariant-loop-machine
invariant-loop-machine l = l.text ≡ l.initial.text ++ flat_map (line_under l.view l.switch) (take l.machine-index l.view.machines)
