use Rattle.std.proofs.Common.{◌≡◌, ◌<◌, ℕ, false, length, get_or}
use Rattle.lab_ahead.specs.Givings.{has_type}
use Rattle.lab_ahead.proofs.served.row_of.Given as goal

abbrev pub invariant-loop-node : goal.invariant-loop-node
invariant-loop-node l = record {
  wide : length l.row.items ≡ l.node;
  is : (n : ℕ) → n < l.node → get_or l.row.items n false ≡ has_type l.lab l.kind (record { 0 = n });
}
