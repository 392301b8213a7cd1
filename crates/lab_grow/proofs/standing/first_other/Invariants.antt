use Rattle.std.proofs.Common.{take}
use Rattle.lab_grow.specs.Named.{AreStaying}
use Rattle.lab_grow.proofs.standing.first_other.Given as goal

abbrev pub invariant-loop-number : goal.invariant-loop-number
invariant-loop-number l = AreStaying l.old l.new (take l.number l.state.state.experiments) (take l.number l.grown.state.experiments)
