use Rattle.std.proofs.Common.{◌≡◌, ◌++◌}
use Rattle.std.specs.List.{flat_map, range_with_len}
use Rattle.lab_picture.specs.Machines.{machine_at}
use Rattle.lab_picture.proofs.machines.push_machines.Given as goal

abbrev pub invariant-loop-number : goal.invariant-loop-number
invariant-loop-number l = l.text ≡ l.initial.text ++ flat_map (machine_at l.geometry l.view) (range_with_len 0 l.number)
