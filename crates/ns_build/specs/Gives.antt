-- The judgement of a command, unless memory ran out.
use Rattle.std.specs.Prelude.{◌≡◌, Result, Ok, Err}
use Rattle.lab_base.specs.declared.fault.Kind.{Kind}
use Rattle.ns_build.specs.declared.refusal.Refusal.{Refusal}
use Rattle.ns_build.specs.declared.refusal.Refusal.TheVariants as refusals

abbrev pub Gives : {X : Type 0} → Result X Refusal → Result X Kind → Type 0
Gives (Ok x) read = read ≡ Ok x
Gives (Err (refusals.Kind kind)) read = read ≡ Err kind
Gives (Err refusals.Memory) read = Unit {0}
