-- Fields of two parts.
use Rattle.std.specs.Prelude.{ℕ, Bool, List, Option, Some, None, is_some, Result, Err, if◌then◌else◌}
use Rattle.std.specs.Option.{option_and_then}
use Rattle.lab_base.specs.Texts.{parted_at}
use Rattle.lab_base.specs.Kinds.{both_of}
use Rattle.lab_base.specs.Parts.{name_of, number_from}
use Rattle.lab_base.specs.declared.fault.Kind.{Kind}
use Rattle.lab_base.specs.declared.fault.Kind.TheVariants as kinds

-- the byte stands in the field
abbrev pub has_byte : ℕ → List ℕ → Bool
has_byte at field = is_some (parted_at at field)

-- the parts of a field before the byte and after it, where it stands there once
abbrev pub with_one : ℕ → List ℕ × List ℕ → Option (List ℕ × List ℕ)
with_one at parts = if has_byte at parts.1 then None else Some parts

abbrev pub pair_at : ℕ → List ℕ → Option (List ℕ × List ℕ)
pair_at at field = option_and_then (with_one at) (parted_at at field)

-- a name and a number, joined by the field's one colon
abbrev pub numbered_parts : ℕ → ℕ → Option (List ℕ × List ℕ) → Result (List ℕ × ℕ) Kind
numbered_parts least most None = Err kinds.Fields
numbered_parts least most (Some parts) = both_of (name_of parts.0) (number_from least most parts.1)

abbrev pub numbered : ℕ → ℕ → List ℕ → Result (List ℕ × ℕ) Kind
numbered least most field = numbered_parts least most (pair_at 58 field)
