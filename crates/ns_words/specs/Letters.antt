-- The units of bandwidth by their first byte.
use Rattle.std.specs.Prelude.{ℕ, Bool, ◌||◌, ◌==◌, List, [], codes, Option, Some, None, if◌then◌else◌}
use Rattle.lab_base.specs.Names.{same_name}

abbrev pub letter_scale : ℕ → Option ℕ
letter_scale b =
    if b == 107 || b == 75
    then Some 1000
    else (if b == 109 || b == 77 then Some 1000000 else (if b == 103 || b == 71 then Some 1000000000 else None))

abbrev pub is_ending : List ℕ → Bool
is_ending bytes = same_name bytes [] || (same_name bytes (codes "b") || same_name bytes (codes "bps"))

abbrev pub ended : List ℕ → ℕ → Option ℕ
ended ending scale = if is_ending ending then Some scale else None
