-- Counts of failures.
use Rattle.std.specs.Prelude.{ℕ, ◌+◌, ◌-◌, ◌^◌, ◌≤◌, min}

-- a count rose; at its last value it counts as risen
abbrev pub Rose : ℕ → ℕ → Type 0
Rose before now = min (before + 1) (2 ^ 64 - 1) ≤ now
