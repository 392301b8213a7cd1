use Rattle.std.proofs.Common.{sym, ◌∙◌}
use Rattle.ns_words.proofs.NameLaws.{indexed_is}
use Rattle.ns_words.proofs.names.indexed_name.Goals as goal

pub returns-then-is_index : goal.returns-then-is_index
returns-then-is_index c = c.joined.ensures ∙ indexed_is c.args.variable.now c.args.index.now (sym c.if-is_word.ensures) (sym c.if-is_index.ensures)
