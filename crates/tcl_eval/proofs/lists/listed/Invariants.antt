use Rattle.std.proofs.Common.{◌≡◌, drop, Ok}
use Rattle.tcl_eval.specs.Forms.{listed_on, listed}
use Rattle.tcl_eval.proofs.lists.listed.Given as goal

abbrev pub invariant-loop-word : goal.invariant-loop-word
invariant-loop-word l = listed_on (Ok l.list) (drop l.word-index l.words) ≡ listed l.fn.list l.words
