use Rattle.layer_rows.proofs.swaps.+finish.Given as goal

abbrev pub decreases-finish : goal.decreases-finish
decreases-finish l = l.turns
