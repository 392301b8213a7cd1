use Rattle.std.proofs.Common.{◌≡◌, ◌<◌, ℕ, true, length}
use Rattle.phys_lab.specs.Sides.{joined}
use Rattle.map_state.proofs.table.are_all_joined.Given as goal

abbrev pub invariant-loop-switch : goal.invariant-loop-switch
invariant-loop-switch l = record { all : (a b : ℕ) → a < l.switch → b < length l.lab.switches → joined l.lab.trunks a b ≡ true }
