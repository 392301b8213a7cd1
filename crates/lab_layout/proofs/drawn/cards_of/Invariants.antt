use Rattle.std.proofs.Common.{◌≡◌, length}
use Rattle.lab_layout.proofs.drawn.cards_of.Given as goal

abbrev pub invariant-loop-spot : goal.invariant-loop-spot
invariant-loop-spot l = length l.cards ≡ l.spot-index
