use Rattle.std.proofs.Common.{◌≡◌, ◌≤◌, ◌+◌, map, length}
use Rattle.cost_rule.specs.Cost.{different, same_node, nodes_in_use}
use Rattle.cost_rule.proofs.costs.nodes_in_use.Given as goal

abbrev pub invariant-loop-first : goal.invariant-loop-first
invariant-loop-first l = record {
  so_far : l.nodes + different same_node (map (λ p. p.0.0) l.rest) ≡ nodes_in_use l.mapping;
  few : l.nodes + length l.rest ≤ length l.mapping.places;
}

abbrev pub decreases-loop-first : goal.decreases-loop-first
decreases-loop-first l = length l.rest
