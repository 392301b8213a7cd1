use Rattle.std.proofs.Common.{◌≡◌, ◌++◌}
use Rattle.std.specs.List.{flat_map, range_with_len}
use Rattle.lab_picture.specs.Lists.{run_at}
use Rattle.lab_picture.proofs.lists.push_runs.Given as goal

abbrev pub invariant-loop-place : goal.invariant-loop-place
invariant-loop-place l = l.text ≡ l.initial.text ++ flat_map (run_at l.geometry l.view) (range_with_len 0 l.place)
