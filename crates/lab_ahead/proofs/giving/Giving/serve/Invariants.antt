use Rattle.std.proofs.Common.{◌≡◌, ◌+◌, ℕ}
use Rattle.lab_ahead.specs.SearchTrees.{IsWhole, KeepsNodes, held, owners_in}
use Rattle.lab_ahead.proofs.giving.Giving.serve.Given as goal

abbrev pub invariant-loop-given : goal.invariant-loop-given
invariant-loop-given l = record {
  whole : IsWhole l.self;
  nodes : KeepsNodes l.fn.self l.self;
  others : (n : ℕ) → (l.need ≡ n → ⊥) → held (owners_in l.self) n ≡ held (owners_in l.fn.self) n;
  own : held (owners_in l.self) l.need ≡ held (owners_in l.fn.self) l.need + l._given;
}
