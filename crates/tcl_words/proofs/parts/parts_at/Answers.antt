use Rattle.std.proofs.Common.{◌≡◌, ℕ, ◌++◌, ◌∷◌, [], arith, sym, subst, ap, ◌∙◌, append_assoc, Result, Err, List, Some, All, length, drop}
use Rattle.std.proofs.lemmas.Result.{err_from_is_err_and}
use Rattle.std.proofs.lemmas.List.Elements.{All-push, All-append}
use Rattle.tcl_words.specs.declared.flaw.Flaw.{Flaw}
use Rattle.tcl_words.specs.declared.word.Part.{Part}
use Rattle.tcl_words.specs.declared.parts.Closing.{Closing}
use Rattle.tcl_words.specs.declared.parts.Closing.TheVariants.{Blank}
use Rattle.tcl_words.specs.Tokens.{is_word_end}
use Rattle.tcl_words.specs.Words.{ClosesAt, PartsOf, closed, unclosed, bytes_from, after_parts, LiesIn}
use Rattle.tcl_words.specs.Pieces.{PieceLeads, LeadsBy}
use Rattle.tcl_words.proofs.Reading.{finds_on, parts_before, bytes_lie, moves}
use Rattle.tcl_words.proofs.parts.parts_at.Goals as goal

pub returns-in-Closed-clause-parts : goal.returns-in-Closed-clause-parts
returns-in-Closed-clause-parts c =
    rw c.in_ok-push_bytes-in-Closed.ensures.ok (c.parts.invariant.rest _ (closed c.parts.plain c.parts.at c.in-Closed.end c.in-Closed.ensures.next))

pub returns-in-Unclosed-clause-parts : goal.returns-in-Unclosed-clause-parts
returns-in-Unclosed-clause-parts c = c.parts.invariant.rest _ (unclosed c.parts.plain c.parts.at c.in-Unclosed.flaw c.in-Unclosed.ensures.next)

pub returns-in_err-part-clause-parts : goal.returns-in_err-part-clause-parts
returns-in_err-part-clause-parts c =
    let p = err_from_is_err_and c.from_residual-in_err-part.result c.from_residual-in_err-part.ensures.1 in
    rw (p.1, p.2) (finds_on (PieceLeads c.args.text.now c.parts.at) (PartsOf c.args.text.now c.args.closing c.args.start c.args.start) c.in_err-part.field-0.0
    (λ f h. c.parts.invariant.rest (Err f) (h c.args.closing c.parts.plain c.in-More.ensures.next)) c.in_err-part.ensures.leads)

pub parts-preserved-in_ok-push : goal.parts-preserved-in_ok-push
parts-preserved-in_ok-push c =
    let more : List Part = bytes_from c.parts.plain c.parts.at ++ c.in-Some.part ∷ [] in
    let pushed : c.push.new.self ≡ c.parts.parts ++ more =
    c.in_ok-push.ensures.ok ∙ ap (λ (ps : List Part). ps ++ c.in-Some.part ∷ []) c.in_ok-push_bytes.ensures.ok ∙ append_assoc c.parts.parts (bytes_from c.parts.plain c.parts.at) (c.in-Some.part ∷ []) in
    let leads : LeadsBy c.args.text.now c.parts.at (Some c.in-Some.part) c.in_ok-part.end = rw c.in-Some.is at c.in_ok-part.ensures.leads in
    record {
      rest = λ o h. subst (λ (x : Result (List Part × ℕ) Flaw). PartsOf c.args.text.now c.args.closing c.args.start c.args.start x)
          (parts_before c.parts.parts more o ∙ ap (λ (ps : List Part). after_parts ps o) (sym pushed))
          (c.parts.invariant.rest _ (leads c.args.closing c.parts.plain o c.in-More.ensures.next h));
      fits = omega (arith, c.in_ok-part.ensures.forward);
      forward = omega (arith, c.in_ok-part.ensures.forward);
      lie = subst (λ (ps : List Part). All (LiesIn (length c.args.text.now)) ps) (sym c.in_ok-push.ensures.ok)
          (All-push (LiesIn (length c.args.text.now)) c.push_bytes-in-Some.new.parts c.in-Some.part
          (subst (λ (ps : List Part). All (LiesIn (length c.args.text.now)) ps) (sym c.in_ok-push_bytes.ensures.ok)
          (All-append (LiesIn (length c.args.text.now)) c.parts.parts (bytes_from c.parts.plain c.parts.at) c.parts.invariant.lie (bytes_lie (length c.args.text.now) c.parts.plain c.parts.at c.parts.invariant.fits)))
          (c.in_ok-part.ensures.lies c.in-Some.part c.in-Some.is));
    }

pub returns-in-Closed-clause-moves : goal.returns-in-Closed-clause-moves
returns-in-Closed-clause-moves c = λ blank more.
    let closes : ClosesAt c.args.text.now Blank c.parts.at c.in-Closed.end = subst (λ (k : Closing). ClosesAt c.args.text.now k c.parts.at c.in-Closed.end) blank c.in-Closed.ensures.next in
    omega (arith, closes.1, moves (λ (i : ℕ). is_word_end (drop i c.args.text.now)) c.args.start c.parts.at more closes.0 c.parts.invariant.forward)

pub returns-in-Closed-clause-lie : goal.returns-in-Closed-clause-lie
returns-in-Closed-clause-lie c =
    subst (λ (ps : List Part). All (LiesIn (length c.args.text.now)) ps) (sym c.in_ok-push_bytes-in-Closed.ensures.ok)
    (All-append (LiesIn (length c.args.text.now)) c.parts.parts (bytes_from c.parts.plain c.parts.at) c.parts.invariant.lie (bytes_lie (length c.args.text.now) c.parts.plain c.parts.at c.parts.invariant.fits))
