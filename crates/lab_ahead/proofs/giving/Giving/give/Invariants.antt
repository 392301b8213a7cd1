use Rattle.std.proofs.Common.{◌≡◌, ◌≤◌, ◌+◌, ℕ}
use Rattle.lab_ahead.specs.SearchTrees.{IsWhole, KeepsNodes, held, owners_in}
use Rattle.lab_ahead.proofs.giving.Giving.give.Given as goal

abbrev pub invariant-loop-place : goal.invariant-loop-place
invariant-loop-place l = record {
  whole : IsWhole l.self;
  nodes : KeepsNodes l.fn.self l.self;
  others : (n : ℕ) → (l.need ≡ n → ⊥) → held (owners_in l.self) n ≡ held (owners_in l.fn.self) n;
  own : held (owners_in l.self) l.need ≡ held (owners_in l.fn.self) l.need + l.given;
  most : l.given ≤ l.count;
}
