use Rattle.std.proofs.Common.{◌≡◌, length}
use Rattle.lab_layout.proofs.layout.Layout.put_each.Given as goal

abbrev pub invariant-loop-switch : goal.invariant-loop-switch
invariant-loop-switch l = length l.self.spots.items ≡ length l.initial.self.spots.items
