use Rattle.std.proofs.Common.{◌≡◌, ℕ, ◌+◌, ◌-◌, arith, sym, subst, Result, Err}
use Rattle.std.proofs.lemmas.Result.{err_from_is_err_and}
use Rattle.tcl_words.specs.declared.frame.Frame.TheVariants as frames
use Rattle.tcl_words.specs.declared.frame.BracketState.TheVariants as places
use Rattle.tcl_words.specs.declared.flaw.Flaw.{Flaw}
use Rattle.tcl_words.specs.Passes.{Passes}
use Rattle.tcl_words.specs.Words.{itself, wrong, escape, variable, braced, indexed, indexed_fails, script, script_fails}
use Rattle.tcl_words.specs.Gives.{Finds}
use Rattle.tcl_words.specs.Pieces.{PieceLeads}
use Rattle.tcl_words.proofs.Reading.{finds_on}
use Rattle.tcl_words.proofs.parts.piece_at.Goals as goal

pub returns-in_err-end-in-Indexed-clause-leads : goal.returns-in_err-end-in-Indexed-clause-leads
returns-in_err-end-in-Indexed-clause-leads c =
    let p = err_from_is_err_and c.from_residual.result c.from_residual.ensures.1 in
    let up : c.args.at + c.in-Indexed.size - 1 + 1 ≡ c.args.at + c.in-Indexed.size = omega (arith, c.in-Indexed.ensures.some) in
    rw (p.1, p.2) (finds_on (λ (o : Result ℕ Flaw). Passes c.args.text.now (frames.Index (c.args.at + c.in-Indexed.size - 1)) (c.args.at + c.in-Indexed.size) o) (PieceLeads c.args.text.now c.args.at) c.in_err-end-in-Indexed.field-0.0
    (λ f h. λ k s on. indexed_fails s c.args.at c.in-Indexed.size f on (sym c.in-Indexed.ensures.token) h)
    (subst (λ (n : ℕ). Finds (λ (o : Result ℕ Flaw). Passes c.args.text.now (frames.Index (c.args.at + c.in-Indexed.size - 1)) n o) (Err c.in_err-end-in-Indexed.field-0.0)) up c.in_err-end-in-Indexed.ensures.passes))

pub returns-in_err-end-in-Bracket-clause-leads : goal.returns-in_err-end-in-Bracket-clause-leads
returns-in_err-end-in-Bracket-clause-leads c =
    let p = err_from_is_err_and c.from_residual-in_err-end-in-Bracket.result c.from_residual-in_err-end-in-Bracket.ensures.1 in
    rw (p.1, p.2) (finds_on (λ (o : Result ℕ Flaw). Passes c.args.text.now (frames.Bracket c.args.at places.Start) (c.args.at + 1) o) (PieceLeads c.args.text.now c.args.at) c.in_err-end-in-Bracket.field-0.0
    (λ f h. λ k s on. script_fails s c.args.at f on (sym c.in-Bracket.ensures.token) h)
    c.in_err-end-in-Bracket.ensures.passes)

pub returns-in-Byte-clause-leads : goal.returns-in-Byte-clause-leads
returns-in-Byte-clause-leads c = λ k s o on rest. itself s c.args.at o on (sym c.in-Byte.ensures.token) rest

pub returns-in-Wrong-clause-leads : goal.returns-in-Wrong-clause-leads
returns-in-Wrong-clause-leads c = λ k s on. wrong s c.args.at on (sym c.in-Wrong.ensures.token)

pub returns-in-Escape-clause-leads : goal.returns-in-Escape-clause-leads
returns-in-Escape-clause-leads c = λ k s o on rest. escape s c.args.at c.in-Escape.byte c.in-Escape.size o on (sym c.in-Escape.ensures.token) rest

pub returns-in-Variable-clause-leads : goal.returns-in-Variable-clause-leads
returns-in-Variable-clause-leads c = rw c.variable_part.ensures (λ k s o on rest. variable s c.args.at c.in-Variable.size o on (sym c.in-Variable.ensures.token) rest)

pub returns-in-Braced-clause-leads : goal.returns-in-Braced-clause-leads
returns-in-Braced-clause-leads c = rw c.variable_part-in-Braced.ensures (λ k s o on rest. braced s c.args.at c.in-Braced.size o on (sym c.in-Braced.ensures.token) rest)

pub returns-in_ok-end-in-Indexed-clause-leads : goal.returns-in_ok-end-in-Indexed-clause-leads
returns-in_ok-end-in-Indexed-clause-leads c =
    let up : c.args.at + c.in-Indexed.size - 1 + 1 ≡ c.args.at + c.in-Indexed.size = omega (arith, c.in-Indexed.ensures.some) in
    rw c.variable_part-in-Indexed.ensures (λ k s o on rest. indexed s c.args.at c.in-Indexed.size _ o on (sym c.in-Indexed.ensures.token) (rw up at c.in_ok-end-in-Indexed.ensures.passes) rest)

pub returns-in_ok-end-in-Bracket-clause-leads : goal.returns-in_ok-end-in-Bracket-clause-leads
returns-in_ok-end-in-Bracket-clause-leads c =
    λ k s o on rest. script s c.args.at _ o on (sym c.in-Bracket.ensures.token) c.in_ok-end-in-Bracket.ensures.passes rest
