use Rattle.std.proofs.Common.{◌≡◌, ◌++◌}
use Rattle.std.specs.List.{flat_map, range_with_len}
use Rattle.lab_picture.specs.Trunks.{trunk_at}
use Rattle.lab_picture.proofs.trunks.push_trunks.Given as goal

abbrev pub invariant-loop-number : goal.invariant-loop-number
invariant-loop-number l = l.text ≡ l.initial.text ++ flat_map (trunk_at l.geometry l.view) (range_with_len 0 l.number)
