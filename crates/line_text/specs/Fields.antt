-- The fields of a line by their number.
use Rattle.std.specs.Prelude.{◌+◌, ℕ, Bool, ◌&&◌, nat_le, List, [], length, drop, slice_index_or, Result, Ok, Err, if◌then◌else◌}
use Rattle.lab_base.specs.Parts.{all_of}
use Rattle.lab_base.specs.declared.fault.Kind.{Kind}
use Rattle.lab_base.specs.declared.fault.Kind.TheVariants as kinds

-- the field of a number, empty where there is none
abbrev pub field_at : List (List ℕ) → ℕ → List ℕ
field_at fields n = slice_index_or fields n []

abbrev pub counts : ℕ → ℕ → List (List ℕ) → Bool
counts least most fields = nat_le least (length fields) && nat_le (length fields) most

-- after the first n fields a list of `least` to `most` fields, each read in the same way
abbrev pub list_after : {X : Type 0} → ℕ → ℕ → ℕ → (List ℕ → Result X Kind) → List (List ℕ) → Result (List X) Kind
list_after n least most read fields = if counts (n + least) (n + most) fields then all_of read (Ok []) (drop n fields) else Err kinds.Fields
