use Rattle.std.proofs.Common.{◌≡◌, ◌+◌, ◌++◌, ℕ, List, drop}
use Rattle.virt_topo.specs.Ends.{end_number}
use Rattle.virt_topo.proofs.EndLaws.{nodes_of}
use Rattle.virt_topo.proofs.ends.sought_in.Given as goal

abbrev pub invariant-loop-at : goal.invariant-loop-at
invariant-loop-at l = (rest : List ℕ) → end_number (nodes_of l.ends ++ rest) l.node l.k ≡ l.at + end_number (nodes_of (drop l.at l.ends) ++ rest) l.node l.left
