-- The values of quantities, computed.
use Rattle.std.specs.Prelude.{◌*◌, ◌/◌, ◌%◌, ◌^◌, ℕ, Bool, false, not, ◌&&◌, ◌==◌, nat_le, List, [], ◌∷◌, ◌++◌, length, drop, Option, Some, None, if◌then◌else◌}
use Rattle.std.specs.Char.{is_ascii_digit}
use Rattle.std.specs.List.{before_first, position_or_len}
use Rattle.std.specs.Str.Parse.{digits_value}
use Rattle.lab_base.specs.Names.{same_name}
use Rattle.virt_topo.specs.Soundness.{is_between}
use Rattle.ns_words.specs.Quantities.{Units, rate_units, time_units, loss_units, second_units}

-- how many of the smallest unit a unit is
abbrev pub scale_of : Units → List ℕ → Option ℕ
scale_of [] unit = None
scale_of (u ∷ units) unit = if same_name unit u.0 then Some u.1 else scale_of units unit

-- the parts of a word: the digits before and after the point, and what is left
pub record Numeral : Type 0 where
  pub whole : List ℕ
  pub fraction : List ℕ
  pub unit : List ℕ

abbrev pub is_no_digit : ℕ → Bool
is_no_digit byte = not (is_ascii_digit byte)

-- the digits that lead, and what stands after them
abbrev pub leading : List ℕ → List ℕ
leading bytes = before_first is_no_digit bytes

abbrev pub behind : List ℕ → List ℕ
behind bytes = drop (position_or_len is_no_digit bytes) bytes

-- a point belongs to the number if 1 to 9 digits stand after it
abbrev pub is_pointed : List ℕ → Bool
is_pointed [] = false
is_pointed (byte ∷ bytes) = byte == 46 && is_between 1 9 (position_or_len is_no_digit bytes)

abbrev pub numeral_from : List ℕ → List ℕ → Numeral
numeral_from whole rest =
    if is_pointed rest
    then record { whole = whole; fraction = leading (drop 1 rest); unit = behind (drop 1 rest) }
    else record { whole = whole; fraction = []; unit = rest }

abbrev pub numeral_of : List ℕ → Numeral
numeral_of word = numeral_from (leading word) (behind word)

-- the quotient, if it is whole and within the limits
abbrev pub quotient_of : ℕ → ℕ → ℕ → ℕ → Option ℕ
quotient_of least most n d = if n % d == 0 && is_between least most (n / d) then Some (n / d) else None

abbrev pub parts_of : ℕ → ℕ → ℕ → Numeral → ℕ → Option ℕ
parts_of part least most n scale =
    if length n.whole == 0
    then None
    else quotient_of least most (digits_value 10 (n.whole ++ n.fraction) * scale) (part * 10 ^ length n.fraction)

-- a numeral in its unit, if it has one
abbrev pub measured : ℕ → ℕ → ℕ → Numeral → Option ℕ → Option ℕ
measured part least most n None = None
measured part least most n (Some scale) = parts_of part least most n scale

abbrev pub quantity_of : Units → ℕ → ℕ → ℕ → List ℕ → Option ℕ
quantity_of units part least most word = measured part least most (numeral_of word) (scale_of units (numeral_of word).unit)

unfoldable pub bandwidth_of : List ℕ → Option ℕ
bandwidth_of word = quantity_of rate_units 1000 1 1000000000 word

unfoldable pub delay_of : List ℕ → Option ℕ
delay_of word = quantity_of time_units 1 0 10000000 word

unfoldable pub loss_of : List ℕ → Option ℕ
loss_of word = quantity_of loss_units 1 0 1000000 word

-- at most six digits after the point
abbrev pub is_to_six : List ℕ → Bool
is_to_six word = nat_le (length (numeral_of word).fraction) 6

unfoldable pub time_of : List ℕ → Option ℕ
time_of word = if is_to_six word then quantity_of second_units 1 0 1000000000000 word else None
