use Rattle.std.proofs.Common.{◌++◌, []}
use Rattle.tcl_eval.specs.Forms.{joined_by}
use Rattle.tcl_eval.proofs.Elements.{appended_is, long_or}
use Rattle.tcl_eval.proofs.lists.appended.Goals as goal

pub returns-clause-value : goal.returns-clause-value
returns-clause-value c =
    rw (appended_is c.loop-word.value c.args.value c.args.words.now c.loop-word.word-index c.loop-word-test.false c.loop-word.invariant) at c.short.ensures.value

pub returns-clause-fails : goal.returns-clause-fails
returns-clause-fails c =
    long_or c.short.result (c.args.value ++ joined_by [] c.args.words.now)
    (rw (appended_is c.loop-word.value c.args.value c.args.words.now c.loop-word.word-index c.loop-word-test.false c.loop-word.invariant) at c.short.ensures.long)
