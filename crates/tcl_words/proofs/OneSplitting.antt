-- A text has one splitting: its commands, their words, the parts of these and the variables in it are one, or there is one fault.
use Rattle.std.proofs.Common.{◌≡◌, ◌≢◌, ℕ, ◌+◌, ◌-◌, true, false, arith, List, [], ◌∷◌, ◌++◌, Option, Some, None, Result, Ok, Err, length, drop, refl, sym, ap, get_or, ◌∙◌}
use Rattle.std.specs.Prelude.{slice_index}
use Rattle.std.proofs.lemmas.List.{get_or-drop}
use Rattle.lab_base.specs.declared.fault.Kind.TheVariants as kinds
use Rattle.lab_base.proofs.Tests.{never_both}
use Rattle.tcl_words.specs.declared.flaw.Flaw.{Flaw}
use Rattle.tcl_words.specs.declared.frame.BracketState.TheVariants.{Start}
use Rattle.tcl_words.specs.declared.frame.Frame.TheVariants as frames
use Rattle.tcl_words.specs.declared.tokens.Token.{Token}
use Rattle.tcl_words.specs.declared.tokens.Token.TheVariants as tokens
use Rattle.tcl_words.specs.declared.word.WordKind.TheVariants as written
use Rattle.tcl_words.specs.declared.word.Part.{Part}
use Rattle.tcl_words.specs.declared.word.Part.TheVariants.{Escape, Variable, Script}
use Rattle.tcl_words.specs.declared.word.Word.{Word}
use Rattle.tcl_words.specs.declared.word.Command.{Command}
use Rattle.tcl_words.specs.declared.word.Reference.{Reference}
use Rattle.tcl_words.specs.declared.parts.Closing.{Closing}
use Rattle.tcl_words.specs.declared.parts.Closing.TheVariants.{Blank, Quote, Index}
use Rattle.tcl_words.specs.declared.parts.Next.{Next}
use Rattle.tcl_words.specs.declared.parts.Next.TheVariants.{Closed, Unclosed, More}
use Rattle.tcl_words.specs.Tokens.{token_of, blank_of, joined_of, is_command_end, is_word_end, braces_from}
use Rattle.tcl_words.specs.Passes.{flaw, Passes}
use Rattle.tcl_words.specs.Pieces.{ComesNext}
use Rattle.tcl_words.specs.Words as rules
use Rattle.tcl_words.specs.Words.{bytes_from, after_parts, PartsOf, InBraces, word, WordOf, after_words, WordsOf, gap_of, line_at, after_commands, CommandsOf, reference, IsNoVariable, ReferenceOf}
use Rattle.tcl_words.proofs.Plans.{Plan, Ends, Asks, Knows, Follows, ends, asks, knows, follows_once, chosen, test_same, test_some, test_most, what_is}
use Rattle.tcl_words.proofs.Passing.{passes_once}

module _ (t : List ℕ) where
  -- what comes next among parts is one
  next_once : (c : Closing) (i : ℕ) (a b : Next) → ComesNext t c i a → ComesNext t c i b → a ≡ b
  next_once Blank i (Closed j) (Closed k) h g = ap Closed (h.1 ∙ sym g.1)
  next_once Blank i (Closed j) More h g = never_both (is_word_end (drop i t)) h.0 g.1
  next_once Blank i More (Closed k) h g = never_both (is_word_end (drop i t)) g.0 h.1
  next_once Blank i (Unclosed e) b h g = absurd h
  next_once Blank i (Closed j) (Unclosed e) h g = absurd g
  next_once Blank i More (Unclosed e) h g = absurd g
  next_once Blank i More More h g = refl
  next_once (Quote p) i (Closed j) (Closed k) h g = ap Closed (h.2 ∙ sym g.2)
  next_once (Quote p) i (Closed j) (Unclosed e) h g = absurd (omega (arith, h.0, g.0))
  next_once (Quote p) i (Closed j) More h g = absurd (g.1 h.1)
  next_once (Quote p) i (Unclosed e) (Closed k) h g = absurd (omega (arith, h.0, g.0))
  next_once (Quote p) i (Unclosed e) (Unclosed f) h g = ap Unclosed (h.1 ∙ sym g.1)
  next_once (Quote p) i (Unclosed e) More h g = absurd (omega (arith, h.0, g.0))
  next_once (Quote p) i More (Closed k) h g = absurd (h.1 g.1)
  next_once (Quote p) i More (Unclosed e) h g = absurd (omega (arith, h.0, g.0))
  next_once (Quote p) i More More h g = refl
  next_once (Index p) i (Closed j) (Closed k) h g = ap Closed (h.2 ∙ sym g.2)
  next_once (Index p) i (Closed j) (Unclosed e) h g = absurd (omega (arith, h.0, g.0))
  next_once (Index p) i (Closed j) More h g = absurd (g.1 h.1)
  next_once (Index p) i (Unclosed e) (Closed k) h g = absurd (omega (arith, h.0, g.0))
  next_once (Index p) i (Unclosed e) (Unclosed f) h g = ap Unclosed (h.1 ∙ sym g.1)
  next_once (Index p) i (Unclosed e) More h g = absurd (omega (arith, h.0, g.0))
  next_once (Index p) i More (Closed k) h g = absurd (h.1 g.1)
  next_once (Index p) i More (Unclosed e) h g = absurd (omega (arith, h.0, g.0))
  next_once (Index p) i More More h g = refl

  -- PARTS
  abbrev part_then : ℕ → ℕ → Part → ℕ → Plan (ℕ × ℕ) (Result (List Part × ℕ) Flaw)
  part_then s i p j = Asks (j, j) (λ o. Ends (after_parts (bytes_from s i ++ p ∷ []) o))

  abbrev index_plan : ℕ → ℕ → Result ℕ Flaw → Plan (ℕ × ℕ) (Result (List Part × ℕ) Flaw)
  index_plan s i (Ok j) = part_then s i (Variable i j) j
  index_plan s i (Err e) = Ends (Err e)

  abbrev script_plan : ℕ → ℕ → Result ℕ Flaw → Plan (ℕ × ℕ) (Result (List Part × ℕ) Flaw)
  script_plan s i (Ok j) = part_then s i (Script (i + 1) (j - 1)) j
  script_plan s i (Err e) = Ends (Err e)

  abbrev piece_plan : ℕ → ℕ → Token → Plan (ℕ × ℕ) (Result (List Part × ℕ) Flaw)
  piece_plan s i tokens.Byte = Asks (s, i + 1) Ends
  piece_plan s i (tokens.Escape b n) = part_then s i (Escape b) (i + n)
  piece_plan s i tokens.Wrong = Ends (Err (flaw kinds.Escape i))
  piece_plan s i (tokens.Variable n) = part_then s i (Variable i (i + n)) (i + n)
  piece_plan s i (tokens.Braced n) = part_then s i (Variable i (i + n)) (i + n)
  piece_plan s i (tokens.Indexed n) =
      Knows (Result ℕ Flaw) (Passes t (frames.Index (i + n - 1)) (i + n)) (passes_once t (frames.Index (i + n - 1)) (i + n)) (index_plan s i)
  piece_plan s i tokens.Bracket = Knows (Result ℕ Flaw) (Passes t (frames.Bracket i Start) (i + 1)) (passes_once t (frames.Bracket i Start) (i + 1)) (script_plan s i)

  abbrev next_plan : ℕ → ℕ → Next → Plan (ℕ × ℕ) (Result (List Part × ℕ) Flaw)
  next_plan s i (Closed j) = Ends (Ok (bytes_from s i, j))
  next_plan s i (Unclosed e) = Ends (Err e)
  next_plan s i More = what_is (token_of (drop i t)) (piece_plan s i)

  -- what comes next among parts, from the places of the bytes that stand for themselves
  abbrev parting : Closing → ℕ × ℕ → Plan (ℕ × ℕ) (Result (List Part × ℕ) Flaw)
  parting c x = Knows Next (ComesNext t c x.1) (next_once c x.1) (next_plan x.0 x.1)

  parts_by : (c : Closing) {s i : ℕ} {o : Result (List Part × ℕ) Flaw} → PartsOf t c s i o → Follows (parting c) (parting c (s, i)) o
  parts_by c (rules.closed s i j is) = knows (Closed j) is ends
  parts_by c (rules.unclosed s i e is) = knows (Unclosed e) is ends
  parts_by c (rules.itself s i o on is rest) = knows More on (knows tokens.Byte is (asks (parts_by c rest) ends))
  parts_by c (rules.wrong s i on is) = knows More on (knows tokens.Wrong is ends)
  parts_by c (rules.escape s i b n o on is rest) = knows More on (knows (tokens.Escape b n) is (asks (parts_by c rest) ends))
  parts_by c (rules.variable s i n o on is rest) = knows More on (knows (tokens.Variable n) is (asks (parts_by c rest) ends))
  parts_by c (rules.braced s i n o on is rest) = knows More on (knows (tokens.Braced n) is (asks (parts_by c rest) ends))
  parts_by c (rules.indexed s i n j o on is inner rest) = knows More on (knows (tokens.Indexed n) is (knows (Ok j) inner (asks (parts_by c rest) ends)))
  parts_by c (rules.indexed_fails s i n e on is inner) = knows More on (knows (tokens.Indexed n) is (knows (Err e) inner ends))
  parts_by c (rules.script s i j o on is inner rest) = knows More on (knows tokens.Bracket is (knows (Ok j) inner (asks (parts_by c rest) ends)))
  parts_by c (rules.script_fails s i e on is inner) = knows More on (knows tokens.Bracket is (knows (Err e) inner ends))

  pub parts_once : (c : Closing) (s i : ℕ) (a b : Result (List Part × ℕ) Flaw) → PartsOf t c s i a → PartsOf t c s i b → a ≡ b
  parts_once c s i a b h g = follows_once (parting c) (parts_by c h) (parts_by c g)

  -- PARTS IN BRACES
  no_line : (xs : List ℕ) → get_or xs 0 0 ≢ 92 → joined_of xs ≡ 0
  no_line [] other = refl
  no_line (b ∷ []) other = refl
  no_line (b ∷ c ∷ more) other = grind arith

  at_front : (i : ℕ) → get_or (drop i t) 0 0 ≡ 92 → slice_index t i ≡ 92
  at_front i e = ap (λ (n : ℕ). get_or t n 0) (omega arith) ∙ (sym (get_or-drop i t 0 0) ∙ e)

  abbrev bracing : ℕ → ℕ × ℕ → Plan (ℕ × ℕ) (List Part)
  bracing end x =
      test_most end x.1 (Ends (bytes_from x.0 end))
      (test_some (joined_of (drop x.1 t)) (Asks (x.1 + joined_of (drop x.1 t), x.1 + joined_of (drop x.1 t)) (λ ps. Ends (bytes_from x.0 x.1 ++ Escape 32 ∷ ps)))
      (test_same (slice_index t x.1) 92 (Asks (x.0, x.1 + 2) Ends) (Asks (x.0, x.1 + 1) Ends)))

  braces_by : (end : ℕ) {s i : ℕ} {ps : List Part} → InBraces t end s i ps → Follows (bracing end) (bracing end (s, i)) ps
  braces_by end (rules.done s i past) = knows true past ends
  braces_by end (rules.joined s i ps less some rest) = knows false less (knows true some (asks (braces_by end rest) ends))
  braces_by end (rules.hidden s i ps less none is rest) = knows false less (knows false none (knows true is (asks (braces_by end rest) ends)))
  braces_by end (rules.other s i ps less other rest) =
      knows false less (knows false (no_line (drop i t) (λ e. other (at_front i e))) (knows false other (asks (braces_by end rest) ends)))

  braces_once : (end s i : ℕ) (a b : List Part) → InBraces t end s i a → InBraces t end s i b → a ≡ b
  braces_once end s i a b h g = follows_once (bracing end) (braces_by end h) (braces_by end g)

  -- WORDS
  abbrev bare_plan : ℕ → Result (List Part × ℕ) Flaw → Plan ℕ (Result Word Flaw)
  bare_plan i (Ok x) = Ends (Ok (word written.Bare i x.1 x.0))
  bare_plan i (Err e) = Ends (Err e)

  abbrev quoted_plan : ℕ → Result (List Part × ℕ) Flaw → Plan ℕ (Result Word Flaw)
  quoted_plan i (Ok x) = what_is (is_word_end (drop x.1 t)) (chosen (Ends (Ok (word written.Quoted i x.1 x.0))) (Ends (Err (flaw kinds.AfterQuote x.1))))
  quoted_plan i (Err e) = Ends (Err e)

  abbrev braced_plan : ℕ → Option ℕ → Plan ℕ (Result Word Flaw)
  braced_plan i None = Ends (Err (flaw kinds.Brace i))
  braced_plan i (Some n) =
      what_is (is_word_end (drop (i + 1 + n) t))
      (chosen (Knows (List Part) (InBraces t (i + n) (i + 1) (i + 1)) (braces_once (i + n) (i + 1) (i + 1)) (λ ps. Ends (Ok (word written.Braced i (i + 1 + n) ps))))
      (Ends (Err (flaw kinds.AfterBrace (i + 1 + n)))))

  abbrev wording : ℕ → Plan ℕ (Result Word Flaw)
  wording i =
      test_same (slice_index t i) 34 (Knows (Result (List Part × ℕ) Flaw) (PartsOf t (Quote i) (i + 1) (i + 1)) (parts_once (Quote i) (i + 1) (i + 1)) (quoted_plan i))
      (test_same (slice_index t i) 123 (what_is (braces_from false 1 (drop (i + 1) t)) (braced_plan i))
      (Knows (Result (List Part × ℕ) Flaw) (PartsOf t Blank i i) (parts_once Blank i i) (bare_plan i)))

  word_by : {i : ℕ} {o : Result Word Flaw} → WordOf t i o → Follows wording (wording i) o
  word_by (rules.bare i j ps quote brace parts) = knows false quote (knows false brace (knows (Ok (ps, j)) parts ends))
  word_by (rules.bare_fails i e quote brace parts) = knows false quote (knows false brace (knows (Err e) parts ends))
  word_by (rules.quoted i j ps is parts end) = knows true is (knows (Ok (ps, j)) parts (knows true end ends))
  word_by (rules.quoted_fails i e is parts) = knows true is (knows (Err e) parts ends)
  word_by (rules.after_quote i j ps is parts end) = knows true is (knows (Ok (ps, j)) parts (knows false end ends))
  word_by (rules.in_braces i n ps is some end parts) = knows false (λ e. absurd (omega (arith, e, is))) (knows true is (knows (Some n) some (knows true end (knows ps parts ends))))
  word_by (rules.braced_fails i is none) = knows false (λ e. absurd (omega (arith, e, is))) (knows true is (knows None none ends))
  word_by (rules.after_brace i n is some end) = knows false (λ e. absurd (omega (arith, e, is))) (knows true is (knows (Some n) some (knows false end ends)))

  word_once : (i : ℕ) (a b : Result Word Flaw) → WordOf t i a → WordOf t i b → a ≡ b
  word_once i a b h g = follows_once wording (word_by h) (word_by g)

  abbrev one_plan : Result Word Flaw → Plan ℕ (Result (List Word × ℕ) Flaw)
  one_plan (Ok w) = Asks w.end (λ o. Ends (after_words (w ∷ []) o))
  one_plan (Err e) = Ends (Err e)

  abbrev commanding : ℕ → Plan ℕ (Result (List Word × ℕ) Flaw)
  commanding i =
      what_is (is_command_end (drop i t)) (chosen (Ends (Ok ([], i)))
      (test_some (blank_of (drop i t)) (Asks (i + blank_of (drop i t)) Ends) (Knows (Result Word Flaw) (WordOf t i) (word_once i) one_plan)))

  words_by : {i : ℕ} {o : Result (List Word × ℕ) Flaw} → WordsOf t i o → Follows commanding (commanding i) o
  words_by (rules.ended i is) = knows true is ends
  words_by (rules.blank i o more some rest) = knows false more (knows true some (asks (words_by rest) ends))
  words_by (rules.one i w o more none is rest) = knows false more (knows false none (knows (Ok w) is (asks (words_by rest) ends)))
  words_by (rules.fails i e more none is) = knows false more (knows false none (knows (Err e) is ends))

  words_once : (i : ℕ) (a b : Result (List Word × ℕ) Flaw) → WordsOf t i a → WordsOf t i b → a ≡ b
  words_once i a b h g = follows_once commanding (words_by h) (words_by g)

  -- COMMANDS
  abbrev command_plan : ℕ → Result (List Word × ℕ) Flaw → Plan ℕ (Result (List Command) Flaw)
  command_plan i (Ok x) = Asks x.1 (λ o. Ends (after_commands (record { words = x.0; line = line_at t i } ∷ []) o))
  command_plan i (Err e) = Ends (Err e)

  abbrev splitting : ℕ → Plan ℕ (Result (List Command) Flaw)
  splitting i =
      test_most (length t) i (Ends (Ok []))
      (test_some (gap_of (drop i t)) (Asks (i + gap_of (drop i t)) Ends) (Knows (Result (List Word × ℕ) Flaw) (WordsOf t i) (words_once i) (command_plan i)))

  commands_by : {i : ℕ} {o : Result (List Command) Flaw} → CommandsOf t i o → Follows splitting (splitting i) o
  commands_by (rules.ended i past) = knows true past ends
  commands_by (rules.gap i o less some rest) = knows false less (knows true some (asks (commands_by rest) ends))
  commands_by (rules.one i j ws o less none words rest) = knows false less (knows false none (knows (Ok (ws, j)) words (asks (commands_by rest) ends)))
  commands_by (rules.fails i e less none words) = knows false less (knows false none (knows (Err e) words ends))

  pub commands_once : (i : ℕ) (a b : Result (List Command) Flaw) → CommandsOf t i a → CommandsOf t i b → a ≡ b
  commands_once i a b h g = follows_once splitting (commands_by h) (commands_by g)

  -- VARIABLES
  abbrev reference_plan : ℕ → ℕ → Result (List Part × ℕ) Flaw → Plan ℕ (Result (Option Reference) Flaw)
  reference_plan i n (Ok x) = Ends (Ok (Some (reference (i + 1) (i + n - 1) (Some x.0) x.1)))
  reference_plan i n (Err e) = Ends (Err e)

  abbrev variable_plan : ℕ → Token → Plan ℕ (Result (Option Reference) Flaw)
  variable_plan i tokens.Byte = Ends (Ok None)
  variable_plan i (tokens.Escape b n) = Ends (Ok None)
  variable_plan i tokens.Wrong = Ends (Ok None)
  variable_plan i (tokens.Variable n) = Ends (Ok (Some (reference (i + 1) (i + n) None (i + n))))
  variable_plan i (tokens.Braced n) = Ends (Ok (Some (reference (i + 2) (i + n - 1) None (i + n))))
  variable_plan i (tokens.Indexed n) =
      Knows (Result (List Part × ℕ) Flaw) (PartsOf t (Index (i + n - 1)) (i + n) (i + n)) (parts_once (Index (i + n - 1)) (i + n) (i + n)) (reference_plan i n)
  variable_plan i tokens.Bracket = Ends (Ok None)

  abbrev naming : ℕ → Plan ℕ (Result (Option Reference) Flaw)
  naming i = what_is (token_of (drop i t)) (variable_plan i)

  nothing_by : (i : ℕ) (k : Token) → IsNoVariable k → Follows naming (variable_plan i k) (Ok None)
  nothing_by i tokens.Byte none = ends
  nothing_by i (tokens.Escape b n) none = ends
  nothing_by i tokens.Wrong none = ends
  nothing_by i (tokens.Variable n) none = absurd none
  nothing_by i (tokens.Braced n) none = absurd none
  nothing_by i (tokens.Indexed n) none = absurd none
  nothing_by i tokens.Bracket none = ends

  reference_by : (i : ℕ) {o : Result (Option Reference) Flaw} → ReferenceOf t i o → Follows naming (naming i) o
  reference_by i (rules.named n is) = knows (tokens.Variable n) is ends
  reference_by i (rules.braced n is) = knows (tokens.Braced n) is ends
  reference_by i (rules.indexed n j ps is parts) = knows (tokens.Indexed n) is (knows (Ok (ps, j)) parts ends)
  reference_by i (rules.indexed_fails n e is parts) = knows (tokens.Indexed n) is (knows (Err e) parts ends)
  reference_by i (rules.nothing none) = knows (token_of (drop i t)) refl (nothing_by i (token_of (drop i t)) none)

  pub reference_once : (i : ℕ) (a b : Result (Option Reference) Flaw) → ReferenceOf t i a → ReferenceOf t i b → a ≡ b
  reference_once i a b h g = follows_once naming (reference_by i h) (reference_by i g)
