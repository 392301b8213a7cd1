-- Quantities: a number and a unit.
use Rattle.std.specs.Prelude.{◌≡◌, ◌≤◌, ◌*◌, ◌^◌, ℕ, true, List, [], ◌∷◌, ◌++◌, length, map, codes}
use Rattle.std.specs.Char.{is_ascii_digit}
use Rattle.std.specs.List.{list_all, flat_map}
use Rattle.std.specs.Str.Parse.{digits_value}
use Rattle.lab_base.specs.Lists.{Has}

-- the texts of units, and how many of the smallest unit each is
abbrev pub Units : Type 0
Units = List (List ℕ × ℕ)

-- a point and the digits after it, or nothing
abbrev pub pointed : List ℕ → List ℕ
pointed [] = []
pointed (digit ∷ digits) = 46 ∷ digit ∷ digits

-- a word is digits, perhaps a point and 1 to 9 digits more, and a unit; so many units are exactly `value` parts, of `part`
-- smallest units each
pub record IsQuantity (units : Units) (part : ℕ) (word : List ℕ) (value : ℕ) : Type 0 where
  pub whole : List ℕ
  pub fraction : List ℕ
  pub unit : List ℕ
  pub scale : ℕ
  pub joined : word ≡ whole ++ pointed fraction ++ unit
  pub digits : list_all is_ascii_digit (whole ++ fraction) ≡ true
  pub some : 1 ≤ length whole
  pub few : length fraction ≤ 9
  pub named : Has units (unit, scale)
  pub exact : digits_value 10 (whole ++ fraction) * scale ≡ value * part * 10 ^ length fraction

-- bits per second: perhaps a letter, then perhaps `b` or `bps`
abbrev pub rate_letters : Units
rate_letters =
    ([], 1)
    ∷ (codes "k", 1000)
    ∷ (codes "K", 1000)
    ∷ (codes "m", 1000000)
    ∷ (codes "M", 1000000)
    ∷ (codes "g", 1000000000)
    ∷ (codes "G", 1000000000)
    ∷ []

abbrev pub rate_endings : List (List ℕ)
rate_endings = [] ∷ codes "b" ∷ codes "bps" ∷ []

abbrev pub rate_units : Units
rate_units = flat_map (λ letter. map (λ ending. (letter.0 ++ ending, letter.1)) rate_endings) rate_letters

-- microseconds: no unit means seconds
abbrev pub time_units : Units
time_units = ([], 1000000) ∷ (codes "s", 1000000) ∷ (codes "ms", 1000) ∷ (codes "us", 1) ∷ []

-- millionths: a loss has no unit
abbrev pub loss_units : Units
loss_units = ([], 1000000) ∷ []

-- microseconds, as a time of an event is always in seconds
abbrev pub second_units : Units
second_units = ([], 1000000) ∷ []

-- a whole number of kbps from 1 to 10^9
pub record IsBandwidth (word : List ℕ) (kbps : ℕ) : Type 0 where
  pub quantity : IsQuantity rate_units 1000 word kbps
  pub least : 1 ≤ kbps
  pub most : kbps ≤ 1000000000

-- a whole number of microseconds up to ten seconds
pub record IsDelay (word : List ℕ) (micros : ℕ) : Type 0 where
  pub quantity : IsQuantity time_units 1 word micros
  pub most : micros ≤ 10000000

-- a whole number of millionths up to 1
pub record IsLoss (word : List ℕ) (ppm : ℕ) : Type 0 where
  pub quantity : IsQuantity loss_units 1 word ppm
  pub most : ppm ≤ 1000000

-- seconds with at most six digits after the point, up to 10^12 microseconds
pub record IsTime (word : List ℕ) (micros : ℕ) : Type 0 where
  pub quantity : IsQuantity second_units 1 word micros
  pub places : length quantity.fraction ≤ 6
  pub most : micros ≤ 1000000000000
