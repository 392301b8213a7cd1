use Rattle.std.proofs.Common.{◌+◌, rules}
use Rattle.std.proofs.lemmas.Result.{err_from_is_err_and}
use Rattle.tcl_words.specs.declared.parts.Closing.TheVariants.{Quote}
use Rattle.tcl_words.specs.Words.{PartsOf, WordOf, quoted, quoted_fails, after_quote}
use Rattle.tcl_words.proofs.Reading.{finds_on}
use Rattle.tcl_words.proofs.words.quoted_word.Goals as goal

pub returns-in_err-parts-clause-word : goal.returns-in_err-parts-clause-word
returns-in_err-parts-clause-word c =
    let p = err_from_is_err_and c.from_residual.result c.from_residual.ensures.1 in
    rw (p.1, p.2) (finds_on (PartsOf c.args.text.now (Quote c.args.at) (c.args.at + 1) (c.args.at + 1)) (WordOf c.args.text.now c.args.at) c.in_err-parts.field-0.0
    (λ f h. quoted_fails c.args.at f c.requires.quote h) c.in_err-parts.ensures.parts)

pub returns-then-not-ends_word_at-clause-word : goal.returns-then-not-ends_word_at-clause-word
returns-then-not-ends_word_at-clause-word c =
    after_quote c.args.at c.in_ok-parts.end c.in_ok-parts.parts c.requires.quote c.in_ok-parts.ensures.parts (search rules)

pub returns-clause-word : goal.returns-clause-word
returns-clause-word c =
    rw c.make_word.ensures (quoted c.args.at c.in_ok-parts.end c.in_ok-parts.parts c.requires.quote c.in_ok-parts.ensures.parts (search rules))
