use Rattle.std.proofs.Common.{◌≡◌, length}
use Rattle.lab_layout.proofs.layout.spots_of.Given as goal

abbrev pub invariant-loop-switch : goal.invariant-loop-switch
invariant-loop-switch l = length l.spots.items ≡ l.switch
