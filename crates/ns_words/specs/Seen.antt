-- A numeral of the code, as contracts see it.
use Rattle.std.specs.Prelude.{◌≡◌, ◌≤◌, ℕ, true, ◌&&◌, nat_lt, nat_le, codes, List, length, Option, Some, None, if◌then◌else◌}
use Rattle.std.specs.Char.{is_ascii_digit}
use Rattle.std.specs.List.{list_all}
use Rattle.lab_base.specs.Names.{is_name}
use Rattle.ns_words.specs.declared.names.Numbered.{Numbered}
use Rattle.ns_words.specs.declared.names.Numbered.TheVariants.{Node, Link}
use Rattle.ns_words.specs.declared.numeral.Numeral.{Numeral as Parts}
use Rattle.ns_words.specs.Values.{Numeral}

abbrev pub numeral_seen : Parts → Numeral
numeral_seen n = record { whole = n.whole.now; fraction = n.fraction.now; unit = n.unit.now }

-- digits, and at most nine after the point
pub record IsNumeral (n : Numeral) : Type 0 where
  pub whole : list_all is_ascii_digit n.whole ≡ true
  pub fraction : list_all is_ascii_digit n.fraction ≡ true
  pub few : length n.fraction ≤ 9

-- a number above 10^13 counts as that one
abbrev pub capped : ℕ → ℕ
capped n = if nat_lt n 10000000000000 then n else 10000000000000

-- the name of these bytes, if it is one and short
abbrev pub named_if : List ℕ → Option (List ℕ)
named_if bytes = if nat_le (length bytes) 26 && is_name bytes then Some bytes else None

abbrev pub numbered_letter : Numbered → List ℕ
numbered_letter Node = codes "n"
numbered_letter Link = codes "l"
