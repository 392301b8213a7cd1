-- The values that commands compute from those of variables.
use Rattle.std.specs.Prelude.{◌≡◌, ℕ, ℤ, pos, ◌+ℤ◌, List, [], ◌∷◌, ◌++◌, Result, Ok, Err}
use Rattle.lab_base.specs.declared.fault.Kind.{Kind}
use Rattle.tcl_eval.specs.Numbers.{number_of, IsValue}

-- the number that a value is
abbrev pub number_in : Result (List ℕ) Kind → Result ℤ Kind
number_in (Ok v) = number_of v
number_in (Err k) = Err k

-- the number that `incr` adds: 1, or the number that its last word is
abbrev pub step_of : List (List ℕ) → Result ℤ Kind
step_of [] = Ok (pos 1)
step_of (word ∷ more) = number_of word

-- the sum of two numbers, or the first of their faults, or that the sum has no 64 bits
abbrev pub IsSum : Result ℤ Kind → Result ℤ Kind → Result ℤ Kind → Type 0
IsSum (Err k) b r = r ≡ Err k
IsSum (Ok x) (Err k) r = r ≡ Err k
IsSum (Ok x) (Ok y) r = IsValue (x +ℤ y) r

-- a variable's name with its index
abbrev pub indexed_name : List ℕ → List ℕ → List ℕ
indexed_name name index = name ++ 40 ∷ [] ++ index ++ 41 ∷ []
