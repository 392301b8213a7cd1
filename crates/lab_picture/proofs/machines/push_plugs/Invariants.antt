use Rattle.std.proofs.Common.{◌≡◌, ◌++◌}
use Rattle.std.specs.List.{flat_map, range_with_len}
use Rattle.lab_picture.specs.Machines.{plug_at}
use Rattle.lab_picture.proofs.machines.push_plugs.Given as goal

abbrev pub invariant-loop-number : goal.invariant-loop-number
invariant-loop-number l = l.text ≡ l.initial.text ++ flat_map (plug_at l.view l.plugs) (range_with_len 0 l.number)
