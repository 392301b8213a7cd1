use Rattle.std.proofs.Common.{◌≡◌, ◌<◌, ℕ, length, get_or}
use Rattle.cost_rule.specs.Cost.{soft_at}
use Rattle.map_state.proofs.softs.row_of.Given as goal

abbrev pub invariant-loop-node : goal.invariant-loop-node
invariant-loop-node l = record {
  one_each : length l.row ≡ l.node;
  each : (n : ℕ) → n < l.node → get_or l.row n 0 ≡ soft_at l.lab l.wiring l.virt (record { 0 = n });
}
