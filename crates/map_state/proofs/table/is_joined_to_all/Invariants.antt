use Rattle.std.proofs.Common.{◌≡◌, ◌<◌, ℕ, true}
use Rattle.phys_lab.specs.Sides.{joined}
use Rattle.map_state.proofs.table.is_joined_to_all.Given as goal

abbrev pub invariant-loop-other : goal.invariant-loop-other
invariant-loop-other l = record { all : (b : ℕ) → b < l.other → joined l.lab.trunks l.switch b ≡ true }
