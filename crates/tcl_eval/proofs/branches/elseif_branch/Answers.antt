use Rattle.std.proofs.Common.{◌+◌, sym, ◌∙◌, arith}
use Rattle.tcl_eval.proofs.Branching.{elseif_found, elseif_missing}
use Rattle.tcl_eval.proofs.branches.elseif_branch.Goals as goal

pub returns-then-is_word-clause-branch : goal.returns-then-is_word-clause-branch
returns-then-is_word-clause-branch c =
    elseif_found c.args.words.now c.args.at (c.args.at + 2 + 1) c.index-words-at.result (omega arith) c.requires c.index-words-at.is (sym c.is_word.ensures ∙ c.if-is_word.true)

pub returns-else-is_word-clause-branch : goal.returns-else-is_word-clause-branch
returns-else-is_word-clause-branch c =
    elseif_missing c.args.words.now c.args.at c.index-words-at.result c.requires c.index-words-at.is (sym c.is_word.ensures ∙ c.if-is_word.false)
