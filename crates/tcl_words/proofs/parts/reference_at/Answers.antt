use Rattle.std.proofs.Common.{◌+◌, ◌-◌, sym, subst}
use Rattle.std.proofs.lemmas.Result.{err_from_is_err_and}
use Rattle.tcl_words.specs.declared.parts.Closing.TheVariants.{Index}
use Rattle.tcl_words.specs.Words.{PartsOf, ReferenceOf, named, braced, indexed, indexed_fails, nothing, IsNoVariable}
use Rattle.tcl_words.proofs.Reading.{finds_on, no_variable}
use Rattle.tcl_words.proofs.parts.reference_at.Goals as goal

pub returns-in-Variable-clause-reference : goal.returns-in-Variable-clause-reference
returns-in-Variable-clause-reference c = named c.in-Variable.size (sym c.in-Variable.ensures.token)

pub returns-in-Braced-clause-reference : goal.returns-in-Braced-clause-reference
returns-in-Braced-clause-reference c = braced c.in-Braced.size (sym c.in-Braced.ensures.token)

pub returns-in_ok-index-in-Indexed-clause-reference : goal.returns-in_ok-index-in-Indexed-clause-reference
returns-in_ok-index-in-Indexed-clause-reference c =
    indexed c.in-Indexed.size c.in_ok-index-in-Indexed.end c.in_ok-index-in-Indexed.index (sym c.in-Indexed.ensures.token) c.in_ok-index-in-Indexed.ensures.parts

pub returns-in_err-index-in-Indexed-clause-reference : goal.returns-in_err-index-in-Indexed-clause-reference
returns-in_err-index-in-Indexed-clause-reference c =
    let p = err_from_is_err_and c.from_residual.result c.from_residual.ensures.1 in
    rw (p.1, p.2) (finds_on (PartsOf c.args.text.now (Index (c.args.at + c.in-Indexed.size - 1)) (c.args.at + c.in-Indexed.size) (c.args.at + c.in-Indexed.size)) (ReferenceOf c.args.text.now c.args.at) c.in_err-index-in-Indexed.field-0.0
    (λ f h. indexed_fails c.in-Indexed.size f (sym c.in-Indexed.ensures.token) h) c.in_err-index-in-Indexed.ensures.parts)

pub returns-in_default-clause-reference : goal.returns-in_default-clause-reference
returns-in_default-clause-reference c =
    nothing (subst IsNoVariable c.token_at.ensures.token (no_variable c.token_at.result c.in_default.not-Variable c.in_default.not-Braced c.in_default.not-Indexed))
