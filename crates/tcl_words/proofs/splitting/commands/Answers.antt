use Rattle.std.proofs.Common.{◌≡◌, ℕ, ◌+◌, ◌∷◌, [], length, drop, arith, sym, subst, ap, ◌∙◌, Result, Ok, Err, List, All}
use Rattle.std.proofs.lemmas.List.{append-nil}
use Rattle.std.proofs.lemmas.List.Elements.{All-push}
use Rattle.std.proofs.lemmas.Result.{err_from_is_err_and}
use Rattle.tcl_words.specs.declared.flaw.Flaw.{Flaw}
use Rattle.tcl_words.specs.declared.word.Command.{Command}
use Rattle.tcl_words.specs.Words.{WordsOf, CommandsOf, ended, one, fails, after_commands, line_at, gap_of, CommandLiesIn}
use Rattle.tcl_words.proofs.Reading.{finds_on, commands_before, gap_on, line_on, gap_none}
use Rattle.tcl_words.proofs.splitting.commands.Goals as goal

pub commands-preserved-then-gap-gt0 : goal.commands-preserved-then-gap-gt0
commands-preserved-then-gap-gt0 c = record {
  rest = λ o h. c.commands.invariant.rest o (gap_on c.args.text.now c.commands.at _ o c.commands-test.true c.gap_at-gap.ensures.size (omega arith) h);
  fits = omega arith;
  behind = omega arith;
  line = c.commands.invariant.line;
  lie = c.commands.invariant.lie;
}

pub returns-in_err-words-clause-commands : goal.returns-in_err-words-clause-commands
returns-in_err-words-clause-commands c =
    let p = err_from_is_err_and c.from_residual.result c.from_residual.ensures.1 in
    rw (p.1, p.2) (finds_on (WordsOf c.args.text.now c.commands.at) (CommandsOf c.args.text.now 0) c.in_err-words.field-0.0
    (λ f h. c.commands.invariant.rest (Err f) (fails c.commands.at f c.commands-test.true (sym c.gap_at-gap.ensures.size ∙ omega arith) h)) c.in_err-words.ensures.words)

pub commands-smaller : goal.commands-smaller
commands-smaller c =
    let none : gap_of (drop c.commands.at c.args.text.now) ≡ 0 = sym c.gap_at-gap.ensures.size ∙ omega arith in
    let more = (gap_none (drop c.commands.at c.args.text.now) none).0 in
    omega (arith, c.in_ok-words.ensures.moves more)

pub commands-preserved : goal.commands-preserved
commands-preserved c =
    let none : gap_of (drop c.commands.at c.args.text.now) ≡ 0 = sym c.gap_at-gap.ensures.size ∙ omega arith in
    let begins = gap_none (drop c.commands.at c.args.text.now) none in
    let line : c.commands.line + c.feeds-line.result ≡ line_at c.args.text.now c.commands.at =
    ap (λ (n : ℕ). n + c.feeds-line.result) c.commands.invariant.line ∙ (ap (λ (n : ℕ). line_at c.args.text.now c.commands.counted + n) c.feeds-line.ensures.feeds ∙ line_on c.args.text.now c.commands.counted c.commands.at c.commands.invariant.behind) in
    let here : Command = record { words = c.in_ok-words.words; line = c.commands.line + c.feeds-line.result } in
    record {
      rest = λ o h. subst (λ (x : Result (List Command) Flaw). CommandsOf c.args.text.now 0 x)
          (commands_before c.commands.commands (here ∷ []) o ∙ ap (λ (cs : List Command). after_commands cs o) (sym c.in_ok-push.ensures.ok))
          (c.commands.invariant.rest _ (subst (λ (n : ℕ). CommandsOf c.args.text.now c.commands.at (after_commands (record { words = c.in_ok-words.words; line = n } ∷ []) o)) (sym line)
          (one c.commands.at c.in_ok-words.end c.in_ok-words.words o c.commands-test.true none c.in_ok-words.ensures.words h)));
      fits = c.in_ok-words.ensures.forward.1;
      behind = c.in_ok-words.ensures.forward.0;
      line = line;
      lie = subst (λ (cs : List Command). All (CommandLiesIn (length c.args.text.now)) cs) (sym c.in_ok-push.ensures.ok)
          (All-push (CommandLiesIn (length c.args.text.now)) c.commands.commands here c.commands.invariant.lie
          (c.in_ok-words.ensures.some begins.1 begins.0, c.in_ok-words.ensures.lie));
    }

pub returns-clause-commands : goal.returns-clause-commands
returns-clause-commands c =
    subst (λ (cs : List Command). CommandsOf c.args.text.now 0 (Ok cs)) (append-nil c.commands.commands)
    (c.commands.invariant.rest _ (ended c.commands.at (omega arith)))
