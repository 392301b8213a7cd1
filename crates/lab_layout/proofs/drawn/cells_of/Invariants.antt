use Rattle.std.proofs.Common.{◌≡◌, length}
use Rattle.lab_layout.proofs.drawn.cells_of.Given as goal

abbrev pub invariant-loop-switch : goal.invariant-loop-switch
invariant-loop-switch l = length l.cells.items ≡ length l.plan.view.now.machines
