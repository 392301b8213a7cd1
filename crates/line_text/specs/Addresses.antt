-- IPv4 addresses.
use Rattle.std.specs.Prelude.{◌≡◌, ◌≤◌, ◌+◌, ◌*◌, ℕ, Bool, false, ◌==◌, List, ◌∷◌, ◌++◌, decimal, Option, Some, None, Result, Ok, Err, if◌then◌else◌}
use Rattle.lab_base.specs.Texts.{parted_at}
use Rattle.lab_base.specs.Parts.{number_from}
use Rattle.lab_base.specs.declared.fault.Kind.{Kind}
use Rattle.lab_base.specs.declared.fault.Kind.TheVariants as kinds
use Rattle.line_text.specs.Reading.{and_then}

-- the number of 32 bits that four bytes make
abbrev pub joined_bytes : ℕ → ℕ → ℕ → ℕ → ℕ
joined_bytes a b c d = ((a * 256 + b) * 256 + c) * 256 + d

-- four numbers without leading zeros, joined by dots: 0 to 255, the last one 1 to 254
pub record IsAddress (word : List ℕ) (address : ℕ) : Type 0 where
  pub a : ℕ
  pub b : ℕ
  pub c : ℕ
  pub d : ℕ
  pub joined : word ≡ decimal a ++ 46 ∷ decimal b ++ 46 ∷ decimal c ++ 46 ∷ decimal d
  pub a_fits : a ≤ 255
  pub b_fits : b ≤ 255
  pub c_fits : c ≤ 255
  pub least : 1 ≤ d
  pub most : d ≤ 254
  pub value : address ≡ joined_bytes a b c d

-- THE SAME, COMPUTED, WITH ITS FAULT

abbrev pub leads_with_zero : List ℕ → Bool
leads_with_zero (a ∷ b ∷ bytes) = a == 48
leads_with_zero bytes = false

-- one of the numbers of an address, without a leading zero
abbrev pub octet : ℕ → ℕ → List ℕ → Result ℕ Kind
octet least most bytes = if leads_with_zero bytes then Err kinds.Number else number_from least most bytes

abbrev pub grown : ℕ → Result ℕ Kind → Result ℕ Kind
grown value (Ok n) = Ok (value * 256 + n)
grown value (Err kind) = Err kind

-- a number, a dot, and what is read after it
abbrev pub dotted : (ℕ → List ℕ → Result ℕ Kind) → ℕ → Option (List ℕ × List ℕ) → Result ℕ Kind
dotted next value None = Err kinds.Number
dotted next value (Some parts) = and_then (grown value (octet 0 255 parts.0)) (λ n. next n parts.1)

abbrev pub fourth : ℕ → List ℕ → Result ℕ Kind
fourth value bytes = grown value (octet 1 254 bytes)

abbrev pub third : ℕ → List ℕ → Result ℕ Kind
third value bytes = dotted fourth value (parted_at 46 bytes)

abbrev pub second : ℕ → List ℕ → Result ℕ Kind
second value bytes = dotted third value (parted_at 46 bytes)

-- four numbers joined by dots, the last one from 1 to 254
abbrev pub address_of : List ℕ → Result ℕ Kind
address_of bytes = dotted second 0 (parted_at 46 bytes)
