use Rattle.lab_ahead.specs.SearchTrees.{KeepsNodes, owners_in, table_in}
use Rattle.lab_ahead.proofs.Exchanges.{IsUnderWay}
use Rattle.lab_ahead.proofs.giving.Giving.exchange.Given as goal

abbrev pub invariant-loop-place : goal.invariant-loop-place
invariant-loop-place l = record {
  nodes : KeepsNodes l.fn.self l.self;
  way : IsUnderWay (table_in l.fn.self) (owners_in l.fn.self) (owners_in l.self) l.path.tree.steps.items l.position l.place;
}

abbrev pub decreases-loop-place : goal.decreases-loop-place
decreases-loop-place l = l.place
