use Rattle.std.proofs.Common.{◌≡◌, length}
use Rattle.lab_layout.proofs.drawn.echoes_of.Given as goal

abbrev pub invariant-loop-spot : goal.invariant-loop-spot
invariant-loop-spot l = length l.echoes ≡ l.spot-index
