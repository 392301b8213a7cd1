use Rattle.std.proofs.Common.{◌≡◌, length}
use Rattle.lab_layout.proofs.layout.Layout.measure.Given as goal

abbrev pub invariant-loop-at : goal.invariant-loop-at
invariant-loop-at l = length l.self.spots.items ≡ length l.initial.self.spots.items
