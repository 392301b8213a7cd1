use Rattle.std.proofs.Common.{◌≡◌, ◌++◌, drop}
use Rattle.tcl_eval.specs.Forms.{after_each, joined_by}
use Rattle.tcl_eval.proofs.lists.joined.Given as goal

abbrev pub invariant-loop-word : goal.invariant-loop-word
invariant-loop-word l = l.text ++ after_each l.between (drop l.word-index l.rest) ≡ joined_by l.between l.words
