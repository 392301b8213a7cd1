-- The costs of the moved parts of two mappings.
use Rattle.std.specs.Prelude.{◌≡◌, ◌+◌, ℕ}
use Rattle.rule_costs.specs.declared.moved.Moved.{Moved}

-- where all of one costs this and all of the other that, the moved parts make the difference
abbrev pub IsDifference : ℕ → ℕ → Moved → Type 0
IsDifference from to x = to + x.before ≡ from + x.after
