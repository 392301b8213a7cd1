-- The return of a function, by a relation on its results.
use Rattle.std.specs.Prelude.{Result, Ok, Err}
use Rattle.tcl_words.specs.declared.flaw.Flaw.{Flaw}
use Rattle.tcl_words.specs.declared.flaw.Broken.{Broken}
use Rattle.tcl_words.specs.declared.flaw.Broken.TheVariants as broken

-- it is found, unless memory ran out
abbrev pub Finds : {A : Type 0} → (Result A Flaw → Type 0) → Result A Broken → Type 0
Finds P (Ok a) = P (Ok a)
Finds P (Err (broken.Flaw e)) = P (Err e)
Finds P (Err broken.Memory) = Unit {0}
