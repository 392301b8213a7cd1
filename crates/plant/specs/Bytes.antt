-- Bytes, as numbers.
use Rattle.std.specs.Prelude.{ℕ, ◌<◌, ◌%◌, List, map, slice_index}

abbrev pub AreBytes : List ℕ → Type 0
AreBytes bytes = (k : ℕ) → slice_index bytes k < 256

-- the numbers with bytes in place of those that are none
abbrev pub as_byte : ℕ → ℕ
as_byte x = x % 256

abbrev pub as_bytes : List ℕ → List ℕ
as_bytes xs = map as_byte xs
