use Rattle.std.proofs.Common.{ℕ, ◌-◌, ◌≤◌, length, reverse, Result}
use Rattle.tcl_words.specs.declared.flaw.Flaw.{Flaw}
use Rattle.tcl_words.specs.Passes.{Passes}
use Rattle.tcl_words.proofs.Nest.{Finishes}
use Rattle.tcl_words.proofs.nesting.pass.Given as goal

-- however what is open ends, the whole ends so
abbrev pub invariant-loop-at : goal.invariant-loop-at
invariant-loop-at l = record {
  rest : (o : Result ℕ Flaw) → Finishes l.text (reverse l.outer.items) l.frame l.at o → Passes l.text l.fn.frame l.fn.at o;
  fits : l.at ≤ length l.text;
  forward : l.fn.at ≤ l.at;
}

abbrev pub decreases-loop-at : goal.decreases-loop-at
decreases-loop-at l = length l.text - l.at
