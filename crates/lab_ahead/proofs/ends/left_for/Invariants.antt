use Rattle.std.proofs.Common.{◌≡◌, ◌++◌, drop}
use Rattle.lab_ahead.specs.Ends.{left_for}
use Rattle.lab_ahead.proofs.EndLaws.{from_node}
use Rattle.lab_ahead.proofs.ends.left_for.Given as goal

abbrev pub invariant-loop-n : goal.invariant-loop-n
invariant-loop-n l = l.left ++ from_node l.ends l.places l.n (drop l.n l.claimers) ≡ left_for l.claimers l.ends l.places
