-- Parts of a line: the value of each, or its fault.
use Rattle.std.specs.Prelude.{ℕ, nat_le, List, [], ◌∷◌, ◌++◌, Option, Some, None, Result, Ok, Err, if◌then◌else◌}
use Rattle.lab_base.specs.Names.{is_name}
use Rattle.lab_base.specs.Numbers.{number_of}
use Rattle.lab_base.specs.Kinds.{both_of}
use Rattle.lab_base.specs.declared.fault.Kind.{Kind}
use Rattle.lab_base.specs.declared.fault.Kind.TheVariants as kinds

-- a name
abbrev pub name_of : List ℕ → Result (List ℕ) Kind
name_of bytes = if is_name bytes then Ok bytes else Err kinds.Name

abbrev pub at_least : ℕ → Option ℕ → Result ℕ Kind
at_least least None = Err kinds.Number
at_least least (Some n) = if nat_le least n then Ok n else Err kinds.Number

-- a number in a range
abbrev pub number_from : ℕ → ℕ → List ℕ → Result ℕ Kind
number_from least most bytes = at_least least (number_of most bytes)

-- the fields of a list one after another, each read in the same way: of all faults the one that is tried first counts
abbrev pub joined_to : {X : Type 0} → Result (List X × X) Kind → Result (List X) Kind
joined_to (Ok (xs, x)) = Ok (xs ++ x ∷ [])
joined_to (Err kind) = Err kind

abbrev pub all_of : {X : Type 0} → (List ℕ → Result X Kind) → Result (List X) Kind → List (List ℕ) → Result (List X) Kind
all_of read so_far [] = so_far
all_of read so_far (field ∷ fields) = all_of read (joined_to (both_of so_far (read field))) fields
