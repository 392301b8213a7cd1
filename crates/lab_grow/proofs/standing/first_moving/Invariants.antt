use Rattle.std.proofs.Common.{take}
use Rattle.lab_grow.specs.Carried.{AreAtRest}
use Rattle.lab_grow.proofs.standing.first_moving.Given as goal

abbrev pub invariant-loop-number : goal.invariant-loop-number
invariant-loop-number l = AreAtRest (take l.number l.state.state.experiments)
