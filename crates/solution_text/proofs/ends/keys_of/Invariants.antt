use Rattle.std.proofs.Common.{◌≡◌, ◌==◌, ℕ, [], take, nat_eq, count_by, unwrap_or}
use Rattle.indexmap.specs.IndexMap.{get}
use Rattle.solution_text.specs.CanonicalSolution.{end_keys}
use Rattle.solution_text.proofs.ends.keys_of.Given as goal

abbrev pub invariant-loop-node : goal.invariant-loop-node
invariant-loop-node l = record {
  keys : l.keys ≡ end_keys [] (take l.node-index l.nodes);
  counts : (v : ℕ) → unwrap_or (get nat_eq l.counts v) 0 ≡ count_by (λ x. x == v) (take l.node-index l.nodes);
}
