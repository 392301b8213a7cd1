use Rattle.std.proofs.Common.{◌≡◌, ◌<◌, ℕ, true}
use Rattle.lab_ahead.specs.SearchTrees.{Extends, IsTaken, IsTree, owners_in, serves, table_in}
use Rattle.lab_ahead.proofs.giving.Giving.look.Given as goal

abbrev pub invariant-loop-i : goal.invariant-loop-i
invariant-loop-i l = record {
  tree : IsTree (table_in l.self) (owners_in l.self) l.tree;
  extends : Extends l.fn.tree.steps.items l.tree.steps.items;
  closed : (j : ℕ) → j < l.i → serves (table_in l.self) l.need j ≡ true → IsTaken (owners_in l.self) l.tree.steps.items j;
}
