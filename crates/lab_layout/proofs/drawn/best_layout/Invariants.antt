use Rattle.std.proofs.Common.{◌≡◌, length}
use Rattle.lab_layout.proofs.drawn.best_layout.Given as goal

abbrev pub invariant-loop-most : goal.invariant-loop-most
invariant-loop-most l = length l.best.spots.items ≡ length l.plan.view.now.switches
