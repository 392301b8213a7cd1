use Rattle.std.proofs.Common.{◌≡◌, map}
use Rattle.std.specs.List.{range_with_len}
use Rattle.lab_base.specs.Lists.{listed}
use Rattle.claims.specs.Held.{claim_nodes, owner_of}
use Rattle.lab_judge.proofs.run.owners_of.Given as goal

abbrev pub invariant-loop-node : goal.invariant-loop-node
invariant-loop-node l = l.by_node ≡ map (λ n. listed (owner_of claim_nodes l.claims.entries n)) (range_with_len 0 l.node)
