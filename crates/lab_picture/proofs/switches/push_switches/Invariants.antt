use Rattle.std.proofs.Common.{◌≡◌, ◌++◌}
use Rattle.std.specs.List.{flat_map, range_with_len}
use Rattle.lab_picture.specs.Switches.{switch_at}
use Rattle.lab_picture.proofs.switches.push_switches.Given as goal

abbrev pub invariant-loop-switch : goal.invariant-loop-switch
invariant-loop-switch l = l.text ≡ l.initial.text ++ flat_map (switch_at l.geometry l.view) (range_with_len 0 l.switch)
