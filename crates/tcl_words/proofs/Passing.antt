-- A bracket, a quote or an index has one end.
use Rattle.std.proofs.Common.{◌≡◌, ◌≢◌, ℕ, ◌+◌, ◌-◌, ◌<◌, true, false, suc, arith, List, ◌∷◌, Option, Some, None, Result, Ok, Err, length, drop, drop-cons, refl, sym, ap, subst, ◌∙◌}
use Rattle.std.specs.Prelude.{slice_index}
use Rattle.std.proofs.lemmas.List.{drop_all}
use Rattle.lab_base.specs.declared.fault.Kind.TheVariants as kinds
use Rattle.tcl_words.specs.declared.flaw.Flaw.{Flaw}
use Rattle.tcl_words.specs.declared.frame.BracketState.{BracketState}
use Rattle.tcl_words.specs.declared.frame.BracketState.TheVariants.{Start, Between, Inside, AfterQuote, AfterBrace}
use Rattle.tcl_words.specs.declared.frame.Frame.{Frame}
use Rattle.tcl_words.specs.declared.frame.Frame.TheVariants.{Bracket, Quote, Index}
use Rattle.tcl_words.specs.declared.tokens.Token.{Token}
use Rattle.tcl_words.specs.declared.tokens.Token.TheVariants as tokens
use Rattle.tcl_words.specs.Tokens.{token_of, token_size, blank_of, is_command_end, comment_from, braces_from}
use Rattle.tcl_words.specs.Passes as rules
use Rattle.tcl_words.specs.Passes.{flaw, flaw_of, after_blank, InBracket, GoesOn, IsPlain, Passes}
use Rattle.tcl_words.proofs.Plans.{Plan, Ends, Asks, Follows, ends, asks, knows, follows_once, chosen, test_same, test_some, test_most, what_is}

-- no blank ends a command
pub end_no_blank : (b : ℕ) (more : List ℕ) → is_command_end (b ∷ more) ≡ true → blank_of (b ∷ more) ≡ 0
end_no_blank b more is = grind arith

module _ (t : List ℕ) where
  -- the bytes at a place
  pub at_byte : (i b : ℕ) → i < length t → slice_index t i ≡ b → drop i t ≡ b ∷ drop (suc i) t
  at_byte i b less is = drop-cons t i 0 less ∙ ap (λ (x : ℕ). x ∷ drop (suc i) t) is

  blank_here : (i : ℕ) → 0 < blank_of (drop i t) → i < length t
  blank_here i some = grind (arith, drop_all i t)

  abbrev after_inner : Frame → Result ℕ Flaw → Plan (Frame × ℕ) (Result ℕ Flaw)
  after_inner g (Ok j) = Asks (g, j) Ends
  after_inner g (Err e) = Ends (Err e)

  abbrev token_plan : Frame → ℕ → Token → Plan (Frame × ℕ) (Result ℕ Flaw)
  token_plan g i tokens.Byte = Asks (g, i + 1) Ends
  token_plan g i (tokens.Escape b n) = Asks (g, i + n) Ends
  token_plan g i tokens.Wrong = Ends (Err (flaw kinds.Escape i))
  token_plan g i (tokens.Variable n) = Asks (g, i + n) Ends
  token_plan g i (tokens.Braced n) = Asks (g, i + n) Ends
  token_plan g i (tokens.Indexed n) = Asks (Index (i + n - 1), i + n) (after_inner g)
  token_plan g i tokens.Bracket = Asks (Bracket i Start, i + 1) (after_inner g)

  abbrev on_plan : Frame → ℕ → Plan (Frame × ℕ) (Result ℕ Flaw)
  on_plan g i = what_is (token_of (drop i t)) (token_plan g i)

  abbrev braces_plan : ℕ → ℕ → Option ℕ → Plan (Frame × ℕ) (Result ℕ Flaw)
  braces_plan p i None = Ends (Err (flaw kinds.Brace i))
  braces_plan p i (Some n) = Asks (Bracket p AfterBrace, i + 1 + n) Ends

  abbrev word_plan : ℕ → ℕ → Plan (Frame × ℕ) (Result ℕ Flaw)
  word_plan p i =
      test_same (slice_index t i) 34 (Asks (Quote i, i + 1) (after_inner (Bracket p AfterQuote)))
      (test_same (slice_index t i) 123 (what_is (braces_from false 1 (drop (i + 1) t)) (braces_plan p i)) (on_plan (Bracket p Inside) i))

  abbrev place_plan : ℕ → BracketState → ℕ → Plan (Frame × ℕ) (Result ℕ Flaw)
  place_plan p Start i = test_same (slice_index t i) 35 (Asks (Bracket p Start, i + comment_from false (drop i t)) Ends) (word_plan p i)
  place_plan p Between i = word_plan p i
  place_plan p Inside i = on_plan (Bracket p Inside) i
  place_plan p AfterQuote i = Ends (Err (flaw kinds.AfterQuote i))
  place_plan p AfterBrace i = Ends (Err (flaw kinds.AfterBrace i))

  abbrev frame_plan : Frame → ℕ → Plan (Frame × ℕ) (Result ℕ Flaw)
  frame_plan (Quote p) i = test_same (slice_index t i) 34 (Ends (Ok (i + 1))) (on_plan (Quote p) i)
  frame_plan (Index p) i = test_same (slice_index t i) 41 (Ends (Ok (i + 1))) (on_plan (Index p) i)
  frame_plan (Bracket p bracket_state) i =
      test_some (blank_of (drop i t)) (Asks (Bracket p (after_blank bracket_state), i + blank_of (drop i t)) Ends)
      (what_is (is_command_end (drop i t)) (chosen (Asks (Bracket p Start, i + 1) Ends) (test_same (slice_index t i) 93 (Ends (Ok (i + 1))) (place_plan p bracket_state i))))

  -- what comes next in a frame at a place
  abbrev pub passing : Frame × ℕ → Plan (Frame × ℕ) (Result ℕ Flaw)
  passing x = test_most (length t) x.1 (Ends (Err (flaw_of x.0))) (frame_plan x.0 x.1)

  in_bracket : (p : ℕ) (bracket_state : BracketState) (i : ℕ) (o : Result ℕ Flaw) → InBracket t i → Follows passing (place_plan p bracket_state i) o → Follows passing (passing (Bracket p bracket_state, i)) o
  in_bracket p bracket_state i o h on = knows false h.here (knows false h.no_blank (knows false h.no_end (knows false h.no_close on)))

  at_other : (i b : ℕ) → i < length t → slice_index t i ≡ b → blank_of (b ∷ drop (suc i) t) ≡ 0 → is_command_end (b ∷ drop (suc i) t) ≡ false → b ≢ 93 → InBracket t i
  at_other i b less is blank end close =
      let front : drop i t ≡ b ∷ drop (suc i) t = at_byte i b less is in
      record { here = less; no_blank = ap blank_of front ∙ blank; no_end = ap is_command_end front ∙ end; no_close = λ e. close (sym is ∙ e) }

  at_word : (p : ℕ) (bracket_state : BracketState) (i : ℕ) (o : Result ℕ Flaw) → rules.IsBefore bracket_state → slice_index t i ≢ 35 → Follows passing (word_plan p i) o → Follows passing (place_plan p bracket_state i) o
  at_word p Start i o before other on = knows false other on
  at_word p Between i o before other on = on
  at_word p Inside i o before other on = absurd before
  at_word p AfterQuote i o before other on = absurd before
  at_word p AfterBrace i o before other on = absurd before

  at_quote : (p : ℕ) (bracket_state : BracketState) (i : ℕ) (o : Result ℕ Flaw) → i < length t → rules.IsBefore bracket_state → slice_index t i ≡ 34
      → Follows passing (Asks (Quote i, i + 1) (after_inner (Bracket p AfterQuote))) o → Follows passing (passing (Bracket p bracket_state, i)) o
  at_quote p bracket_state i o less before is on =
      in_bracket p bracket_state i o (at_other i 34 less is refl refl (λ e. absurd (omega (arith, e)))) (at_word p bracket_state i o before (λ e. absurd (omega (arith, e, is))) (knows true is on))

  at_brace : (p : ℕ) (bracket_state : BracketState) (i : ℕ) (o : Result ℕ Flaw) → i < length t → rules.IsBefore bracket_state → slice_index t i ≡ 123
      → Follows passing (what_is (braces_from false 1 (drop (i + 1) t)) (braces_plan p i)) o → Follows passing (passing (Bracket p bracket_state, i)) o
  at_brace p bracket_state i o less before is on =
      in_bracket p bracket_state i o (at_other i 123 less is refl refl (λ e. absurd (omega (arith, e))))
      (at_word p bracket_state i o before (λ e. absurd (omega (arith, e, is))) (knows false (λ e. absurd (omega (arith, e, is))) (knows true is on)))

  plain_on : (g : Frame) (i : ℕ) (o : Result ℕ Flaw) (k : Token) → IsPlain k → Follows passing (passing (g, i + token_size k)) o → Follows passing (token_plan g i k) o
  plain_on g i o tokens.Byte is on = asks on ends
  plain_on g i o (tokens.Escape b n) is on = asks on ends
  plain_on g i o tokens.Wrong is on = absurd is
  plain_on g i o (tokens.Variable n) is on = asks on ends
  plain_on g i o (tokens.Braced n) is on = asks on ends
  plain_on g i o (tokens.Indexed n) is on = absurd is
  plain_on g i o tokens.Bracket is on = absurd is

  goes_on : (f g : Frame) (i : ℕ) (o : Result ℕ Flaw) → GoesOn t f i g → Follows passing (on_plan g i) o → Follows passing (passing (f, i)) o
  goes_on (Bracket p Start) g i o on h =
      in_bracket p Start i o on.0 (knows false on.1.0 (knows false on.1.1 (knows false on.1.2 (subst (λ (g : Frame). Follows passing (on_plan g i) o) on.2 h))))
  goes_on (Bracket p Between) g i o on h = in_bracket p Between i o on.0 (knows false on.1.0 (knows false on.1.1 (subst (λ (g : Frame). Follows passing (on_plan g i) o) on.2 h)))
  goes_on (Bracket p Inside) g i o on h = in_bracket p Inside i o on.0 (subst (λ (g : Frame). Follows passing (on_plan g i) o) on.2 h)
  goes_on (Bracket p AfterQuote) g i o on h = absurd on.1
  goes_on (Bracket p AfterBrace) g i o on h = absurd on.1
  goes_on (Quote p) g i o on h = knows false on.0 (knows false on.1 (subst (λ (g : Frame). Follows passing (on_plan g i) o) on.2 h))
  goes_on (Index p) g i o on h = knows false on.0 (knows false on.1 (subst (λ (g : Frame). Follows passing (on_plan g i) o) on.2 h))

  passes_by : {f : Frame} {i : ℕ} {o : Result ℕ Flaw} → Passes t f i o → Follows passing (passing (f, i)) o
  passes_by (rules.unclosed f i past) = knows true past ends
  passes_by (rules.quote_ends p i less is) = knows false less (knows true is ends)
  passes_by (rules.index_ends p i less is) = knows false less (knows true is ends)
  passes_by (rules.bracket_ends p bracket_state i less is) =
      knows false less (knows false (ap blank_of (at_byte i 93 less is)) (knows false (ap is_command_end (at_byte i 93 less is)) (knows true is ends)))
  passes_by (rules.blank p bracket_state i o some on) = knows false (blank_here i some) (knows true some (asks (passes_by on) ends))
  passes_by (rules.ends p bracket_state i o less is on) =
      knows false less (knows false (ap blank_of (drop-cons t i 0 less) ∙ end_no_blank (slice_index t i) (drop (suc i) t) (sym (ap is_command_end (drop-cons t i 0 less)) ∙ is))
      (knows true is (asks (passes_by on) ends)))
  passes_by (rules.comment p i o less is on) = in_bracket p Start i o (at_other i 35 less is refl refl (λ e. absurd (omega (arith, e)))) (knows true is (asks (passes_by on) ends))
  passes_by (rules.quoted p bracket_state i j o less before is inner on) = at_quote p bracket_state i o less before is (asks (passes_by inner) (asks (passes_by on) ends))
  passes_by (rules.quoted_fails p bracket_state i e less before is inner) = at_quote p bracket_state i (Err e) less before is (asks (passes_by inner) ends)
  passes_by (rules.braced p bracket_state i n o less before is some on) = at_brace p bracket_state i o less before is (knows (Some n) some (asks (passes_by on) ends))
  passes_by (rules.braced_fails p bracket_state i less before is none) = at_brace p bracket_state i (Err (flaw kinds.Brace i)) less before is (knows None none ends)
  passes_by (rules.after_quote p i h) = in_bracket p AfterQuote i (Err (flaw kinds.AfterQuote i)) h ends
  passes_by (rules.after_brace p i h) = in_bracket p AfterBrace i (Err (flaw kinds.AfterBrace i)) h ends
  passes_by (rules.plain f g i o on is rest) = goes_on f g i o on (knows (token_of (drop i t)) refl (plain_on g i o (token_of (drop i t)) is (passes_by rest)))
  passes_by (rules.wrong f g i on is) = goes_on f g i (Err (flaw kinds.Escape i)) on (knows tokens.Wrong is ends)
  passes_by (rules.indexed f g i n j o on is inner rest) = goes_on f g i o on (knows (tokens.Indexed n) is (asks (passes_by inner) (asks (passes_by rest) ends)))
  passes_by (rules.indexed_fails f g i n e on is inner) = goes_on f g i (Err e) on (knows (tokens.Indexed n) is (asks (passes_by inner) ends))
  passes_by (rules.bracket f g i j o on is inner rest) = goes_on f g i o on (knows tokens.Bracket is (asks (passes_by inner) (asks (passes_by rest) ends)))
  passes_by (rules.bracket_fails f g i e on is inner) = goes_on f g i (Err e) on (knows tokens.Bracket is (asks (passes_by inner) ends))

  pub passes_once : (f : Frame) (i : ℕ) (a b : Result ℕ Flaw) → Passes t f i a → Passes t f i b → a ≡ b
  passes_once f i a b h g = follows_once passing (passes_by h) (passes_by g)
