use Rattle.std.proofs.Common.{◌≡◌, ◌<◌, ◌-◌, ℕ, length}
use Rattle.lab_ahead.specs.SearchTrees.{IsClosedAt, IsTree, owners_in, step_at, table_in}
use Rattle.lab_ahead.proofs.giving.Giving.search.Given as goal

abbrev pub invariant-loop-place : goal.invariant-loop-place
invariant-loop-place l = record {
  tree : IsTree (table_in l.self) (owners_in l.self) l.tree;
  start_is : (step_at l.tree.steps.items 0).need ≡ l.start;
  closed : (k : ℕ) → k < l.place → k < length l.tree.steps.items → IsClosedAt (table_in l.self) (owners_in l.self) l.tree.steps.items k;
}

abbrev pub decreases-loop-place : goal.decreases-loop-place
decreases-loop-place l = length (table_in l.self) - l.place
