use Rattle.std.proofs.Common.{refl}
use Rattle.std.proofs.lemmas.Result.{err_from_is_err_and}
use Rattle.tcl_words.specs.declared.parts.Closing.TheVariants.{Blank}
use Rattle.tcl_words.specs.Words.{PartsOf, WordOf, bare, bare_fails}
use Rattle.tcl_words.proofs.Reading.{finds_on}
use Rattle.tcl_words.proofs.words.bare_word.Goals as goal

pub returns-in_err-parts-clause-word : goal.returns-in_err-parts-clause-word
returns-in_err-parts-clause-word c =
    let p = err_from_is_err_and c.from_residual.result c.from_residual.ensures.1 in
    rw (p.1, p.2) (finds_on (PartsOf c.args.text.now Blank c.args.at c.args.at) (WordOf c.args.text.now c.args.at) c.in_err-parts.field-0.0
    (λ f h. bare_fails c.args.at f c.requires.no_quote c.requires.no_brace h) c.in_err-parts.ensures.parts)

pub returns-clause-word : goal.returns-clause-word
returns-clause-word c =
    rw c.make_word.ensures (bare c.args.at c.in_ok-parts.end c.in_ok-parts.parts c.requires.no_quote c.requires.no_brace c.in_ok-parts.ensures.parts)

pub returns-clause-lies : goal.returns-clause-lies
returns-clause-lies c =
    rw c.make_word.ensures (refl, c.in_ok-parts.ensures.moves refl c.requires.begins, c.in_ok-parts.ensures.forward.1, c.in_ok-parts.ensures.lie)
