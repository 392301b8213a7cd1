-- Runs of VLAN ids with one owner, or with none.
use Rattle.std.specs.Prelude.{ℕ, ◌-◌, ◌==◌, ◌||◌, Bool, true, false, not, List, length, drop, take_while, slice_get, Option, Some, None}

-- both have the same owner, or none
abbrev pub is_same : Option ℕ → Option ℕ → Bool
is_same None None = true
is_same (Some m) (Some n) = m == n
is_same a b = false

-- the owner at a place, None where it has none
abbrev pub owner_in : Option (Option ℕ) → Option ℕ
owner_in None = None
owner_in (Some owner) = owner

abbrev pub owner_at : List (Option ℕ) → ℕ → Option ℕ
owner_at owners k = owner_in (slice_get owners k)

-- A RUN BEGINS at a place: it is the first one, or the one before it has another owner; and how long it is
abbrev pub begins_run : List (Option ℕ) → ℕ → Bool
begins_run owners k = k == 0 || not (is_same (owner_at owners k) (owner_at owners (k - 1)))

abbrev pub run_length : List (Option ℕ) → ℕ → ℕ
run_length owners k = length (take_while (is_same (owner_at owners k)) (drop k owners))
