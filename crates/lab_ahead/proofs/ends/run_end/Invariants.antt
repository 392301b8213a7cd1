use Rattle.std.proofs.Common.{◌≡◌, drop}
use Rattle.lab_ahead.specs.Ends.{run_end}
use Rattle.lab_ahead.proofs.ends.run_end.Given as goal

abbrev pub invariant-loop-end : goal.invariant-loop-end
invariant-loop-end l = run_end (drop l.end-index l.ends) l.exp ≡ run_end l.ends l.exp
