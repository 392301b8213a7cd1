use Rattle.lab_ahead.specs.SearchTrees.{AreMet, IsWhole, KeepsNodes, owners_in}
use Rattle.lab_ahead.proofs.giving.Giving.serve_all.Given as goal

abbrev pub invariant-loop-n : goal.invariant-loop-n
invariant-loop-n l = record {
  whole : IsWhole l.self;
  nodes : KeepsNodes l.fn.self l.self;
  met : AreMet l.needs l.n (owners_in l.self);
}
