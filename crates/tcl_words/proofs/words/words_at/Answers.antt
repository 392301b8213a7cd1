use Rattle.std.proofs.Common.{ℕ, ◌∷◌, [], length, drop, arith, rules, sym, subst, ap, ◌∙◌, length-append, Result, Ok, Err, List, All}
use Rattle.std.proofs.lemmas.Result.{err_from_is_err_and}
use Rattle.std.proofs.lemmas.List.{append-nil}
use Rattle.std.proofs.lemmas.List.Elements.{All-push}
use Rattle.tcl_words.specs.declared.flaw.Flaw.{Flaw}
use Rattle.tcl_words.specs.declared.word.Word.{Word}
use Rattle.tcl_words.specs.Tokens.{is_command_end, blank_of}
use Rattle.tcl_words.specs.Words.{WordOf, WordsOf, ended, one, fails, after_words, WordLiesIn}
use Rattle.tcl_words.proofs.Reading.{finds_on, words_before, blank_on, moves, moved}
use Rattle.tcl_words.proofs.words.words_at.Goals as goal

pub words-preserved-then-blank-gt0 : goal.words-preserved-then-blank-gt0
words-preserved-then-blank-gt0 c = record {
  rest = λ o h. c.words.invariant.rest o (blank_on c.args.text.now c.words.at _ o (search rules) c.blank_at-blank.ensures.size (omega arith) h);
  fits = omega arith;
  forward = omega arith;
  some = λ none far. c.words.invariant.some none (moved (λ (i : ℕ). blank_of (drop i c.args.text.now)) c.args.start c.words.at none (omega (arith, c.blank_at-blank.ensures.size)) c.words.invariant.forward);
  lie = c.words.invariant.lie;
}

pub returns-in_err-word-clause-words : goal.returns-in_err-word-clause-words
returns-in_err-word-clause-words c =
    let p = err_from_is_err_and c.from_residual.result c.from_residual.ensures.1 in
    rw (p.1, p.2) (finds_on (WordOf c.args.text.now c.words.at) (WordsOf c.args.text.now c.args.start) c.in_err-word.field-0.0
    (λ f h. c.words.invariant.rest (Err f) (fails c.words.at f (search rules) (sym c.blank_at-blank.ensures.size ∙ omega arith) h)) c.in_err-word.ensures.word)

pub words-preserved : goal.words-preserved
words-preserved c = record {
  rest = λ o h. subst (λ (x : Result (List Word × ℕ) Flaw). WordsOf c.args.text.now c.args.start x)
      (words_before c.words.words (c.in_ok-word.word ∷ []) o ∙ ap (λ (ws : List Word). after_words ws o) (sym c.in_ok-push.ensures.ok))
      (c.words.invariant.rest _ (one c.words.at c.in_ok-word.word o (search rules) (sym c.blank_at-blank.ensures.size ∙ omega arith) c.in_ok-word.ensures.word h));
  fits = c.in_ok-word.ensures.lies.2;
  forward = omega (arith, c.in_ok-word.ensures.lies.0, c.in_ok-word.ensures.lies.1);
  some = λ none far. rw (c.in_ok-push.ensures.ok, length-append) (omega arith);
  lie = subst (λ (ws : List Word). All (WordLiesIn (length c.args.text.now)) ws) (sym c.in_ok-push.ensures.ok)
      (All-push (WordLiesIn (length c.args.text.now)) c.words.words c.in_ok-word.word c.words.invariant.lie
      (omega (arith, c.in_ok-word.ensures.lies.0, c.in_ok-word.ensures.lies.1), c.in_ok-word.ensures.lies.2, c.in_ok-word.ensures.lies.3));
}

pub returns-clause-words : goal.returns-clause-words
returns-clause-words c =
    subst (λ (ws : List Word). WordsOf c.args.text.now c.args.start (Ok (ws, c.words.at))) (append-nil c.words.words)
    (c.words.invariant.rest _ (ended c.words.at (search rules)))

pub returns-clause-moves : goal.returns-clause-moves
returns-clause-moves c = λ more.
    moves (λ (i : ℕ). is_command_end (drop i c.args.text.now)) c.args.start c.words.at more (search rules) c.words.invariant.forward

pub returns-clause-some : goal.returns-clause-some
returns-clause-some c = λ none more.
    c.words.invariant.some none (moves (λ (i : ℕ). is_command_end (drop i c.args.text.now)) c.args.start c.words.at more (search rules) c.words.invariant.forward)
