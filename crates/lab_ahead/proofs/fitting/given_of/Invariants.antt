use Rattle.std.proofs.Common.{◌≡◌, ◌++◌, drop}
use Rattle.lab_ahead.specs.SearchTrees.{given_of}
use Rattle.lab_ahead.proofs.fitting.given_of.Given as goal

abbrev pub invariant-loop-i : goal.invariant-loop-i
invariant-loop-i l = l.given ++ given_of (drop l.i l.left) (drop l.i l.owners) ≡ given_of l.left l.owners
