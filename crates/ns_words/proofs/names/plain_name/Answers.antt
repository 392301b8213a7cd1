use Rattle.std.proofs.Common.{sym, ◌∙◌}
use Rattle.ns_words.proofs.NameLaws.{plain_is}
use Rattle.ns_words.proofs.names.plain_name.Goals as goal

pub returns-then-is_word : goal.returns-then-is_word
returns-then-is_word c = c.name_in.ensures ∙ plain_is c.args.variable.now (sym c.if-is_word.ensures)
