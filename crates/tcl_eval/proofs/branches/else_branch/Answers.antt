use Rattle.std.proofs.Common.{sym, ◌∙◌}
use Rattle.tcl_eval.proofs.Branching.{else_missing}
use Rattle.tcl_eval.proofs.branches.else_branch.Goals as goal

pub returns-else-is_word-clause-branch : goal.returns-else-is_word-clause-branch
returns-else-is_word-clause-branch c =
    else_missing c.args.words.now c.args.at c.index-words-at.result c.requires c.index-words-at.is (sym c.is_word.ensures ∙ c.if-is_word.false)
