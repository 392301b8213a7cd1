use Rattle.std.proofs.Common.{◌≡◌, ◌++◌, take}
use Rattle.std.specs.List.{flat_map}
use Rattle.lab_view.specs.Lines.{lone_line}
use Rattle.lab_view.proofs.lines.push_lone_machines.Given as goal

abbrev pub invariant-loop-machine : goal.invariant-loop-machine
invariant-loop-machine l = l.text ≡ l.initial.text ++ flat_map (lone_line l.view) (take l.machine-index l.view.machines)
