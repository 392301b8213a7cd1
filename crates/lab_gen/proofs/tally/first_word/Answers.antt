use Rattle.std.proofs.Common.{sym, ◌∙◌}
use Rattle.lab_gen.proofs.FirstWords.{word_before, word_whole}
use Rattle.lab_gen.proofs.tally.first_word.Goals as goal

pub returns-in-Some : goal.returns-in-Some
returns-in-Some c = sym (word_before c.args.text.now c.in-Some.at (sym c.word_end.ensures ∙ c.in-Some.is))

pub returns-in-None : goal.returns-in-None
returns-in-None c = sym (word_whole c.args.text.now (sym c.word_end.ensures ∙ c.in-None.is))
