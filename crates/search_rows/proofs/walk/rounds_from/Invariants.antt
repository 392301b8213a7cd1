use Rattle.search_rows.proofs.walk.rounds_from.Given as goal

abbrev pub decreases-loop-heat : goal.decreases-loop-heat
decreases-loop-heat l = l.heat
