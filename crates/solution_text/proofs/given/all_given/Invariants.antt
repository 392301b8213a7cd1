use Rattle.std.proofs.Common.{◌≡◌, ◌++◌, drop}
use Rattle.std.specs.Prelude.{option_map}
use Rattle.solution_text.specs.Solutions.{all_given}
use Rattle.solution_text.proofs.given.all_given.Given as goal

abbrev pub invariant-loop-entry : goal.invariant-loop-entry
invariant-loop-entry g l = all_given l.entries ≡ option_map (λ rest. l.given ++ rest) (all_given (drop l.entry-index l.entries))
