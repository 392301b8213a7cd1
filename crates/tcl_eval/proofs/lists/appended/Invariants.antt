use Rattle.std.proofs.Common.{◌≡◌, ◌++◌, [], drop}
use Rattle.tcl_eval.specs.Forms.{after_each}
use Rattle.tcl_eval.proofs.lists.appended.Given as goal

abbrev pub invariant-loop-word : goal.invariant-loop-word
invariant-loop-word l = l.value ++ after_each [] (drop l.word-index l.words) ≡ l.fn.value ++ after_each [] l.words
