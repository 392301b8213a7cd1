use Rattle.std.proofs.Common.{◌≡◌, take}
use Rattle.std.specs.Prelude.{count_by}
use Rattle.lab_model.specs.Sound.{is_moving}
use Rattle.lab_core.proofs.controller.moving.Given as goal

abbrev pub invariant-loop-number : goal.invariant-loop-number
invariant-loop-number l = l.count ≡ count_by is_moving (take l.number l.lab.state.experiments)
