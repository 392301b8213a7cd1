-- Spans rise: what is read lies after what was read before it.
use Rattle.std.specs.List.{prefix_len}
use Rattle.std.specs.Char.{is_ascii_alphanumeric}
use Rattle.std.proofs.Common.{arith, ◌≡◌, ℕ, ◌+◌, ◌<◌, ◌≤◌, inl, inr, ◌||◌, ◌&&◌, ◌==◌, nat_lt, Bool, true, false, cond, List, [], ◌∷◌, ◌++◌, Result, Ok, Err, drop, refl, sym, ap, ◌∙◌, subst}
use Rattle.std.proofs.lemmas.Bool.{cases_Bool, true≢false}
use Rattle.tcl_words.specs.declared.flaw.Flaw.{Flaw}
use Rattle.tcl_words.specs.declared.frame.Frame.{Frame}
use Rattle.tcl_words.specs.declared.tokens.Token.{Token}
use Rattle.tcl_words.specs.declared.tokens.Token.TheVariants as tokens
use Rattle.tcl_words.specs.declared.word.Part.{Part}
use Rattle.tcl_words.specs.declared.word.Word.{Word}
use Rattle.tcl_words.specs.declared.word.Command.{Command}
use Rattle.tcl_words.specs.declared.parts.Closing.{Closing}
use Rattle.tcl_words.specs.declared.parts.Closing.TheVariants.{Blank, Quote, Index}
use Rattle.tcl_words.specs.Tokens.{token_of, token_size, escape_of, variable_of, braced_of, blank_of, is_command_end, is_word_end, in_name, in_blank, begins_with}
use Rattle.tcl_words.specs.Passes as passing
use Rattle.tcl_words.specs.Passes.{Passes}
use Rattle.tcl_words.specs.Spans.{AreRising, words_of}
use Rattle.tcl_words.specs.Words as rules
use Rattle.tcl_words.specs.Words.{after_parts, PartsOf, WordOf, after_words, WordsOf, after_commands, CommandsOf}

-- WHAT STANDS AT THE FRONT HAS BYTES
abbrev HasBytes : Token → Type 0
HasBytes k = 0 < token_size k

either_has : (b : Bool) (j k : Token) → HasBytes j → HasBytes k → HasBytes (cond b j k)
either_has true j k one other = one
either_has false j k one other = other

byte_has : HasBytes tokens.Byte
byte_has = omega arith

wrong_has : HasBytes tokens.Wrong
wrong_has = omega arith

escaped_has : (b n : ℕ) → 0 < n → HasBytes (tokens.Escape b n)
escaped_has b n some = some

escape_has : (tail : List ℕ) → HasBytes (escape_of tail)
escape_has [] = byte_has
escape_has (b ∷ more) =
    either_has (b == 10) _ _ (escaped_has 32 (2 + prefix_len in_blank more) (omega arith))
    (either_has (b == 110) _ _ (escaped_has 10 2 (omega arith))
    (either_has (b == 116) _ _ (escaped_has 9 2 (omega arith))
    (either_has (is_ascii_alphanumeric b) _ _ wrong_has (escaped_has b 2 (omega arith)))))

named_has : (tail : List ℕ) (n : ℕ) → HasBytes (cond (begins_with 40 (drop n tail)) (tokens.Indexed (n + 2)) (tokens.Variable (n + 1)))
named_has tail n = elim (cases_Bool (begins_with 40 (drop n tail))) [
  | inl is ↦ subst (λ b. HasBytes (cond b (tokens.Indexed (n + 2)) (tokens.Variable (n + 1)))) (sym is) (let some : 0 < n + 2 = omega arith in some)
  | inr is ↦ subst (λ b. HasBytes (cond b (tokens.Indexed (n + 2)) (tokens.Variable (n + 1)))) (sym is) (let some : 0 < n + 1 = omega arith in some)
]

braced_has : (more : List ℕ) → HasBytes (braced_of more)
braced_has more = let n = prefix_len in_name more in
    let some : 0 < n + 3 = omega arith in either_has (nat_lt 0 n && begins_with 125 (drop n more)) (tokens.Braced (n + 3)) tokens.Byte some byte_has

variable_has : (tail : List ℕ) → HasBytes (variable_of tail)
variable_has [] = byte_has
variable_has (b ∷ more) =
    either_has (nat_lt 0 (prefix_len in_name (b ∷ more))) _ _ (named_has (b ∷ more) (prefix_len in_name (b ∷ more))) (either_has (b == 123) _ _ (braced_has more) byte_has)

token_has : (rest : List ℕ) → HasBytes (token_of rest)
token_has [] = byte_has
token_has (b ∷ tail) = either_has (b == 92) _ _ (escape_has tail) (either_has (b == 36) _ _ (variable_has tail) (either_has (b == 91) tokens.Bracket tokens.Byte (omega arith) byte_has))

-- a place that was come to lies no earlier
abbrev IsFrom : ℕ → Result ℕ Flaw → Type 0
IsFrom i (Ok j) = i ≤ j
IsFrom i (Err e) = Unit {0}

from_later : (i j : ℕ) (o : Result ℕ Flaw) → i ≤ j → IsFrom j o → IsFrom i o
from_later i j (Ok k) less from = omega (arith, less, from)
from_later i j (Err e) less from = tt

abbrev EndsFrom : {A : Type 0} → ℕ → Result (A × ℕ) Flaw → Type 0
EndsFrom i (Ok x) = i ≤ x.1
EndsFrom i (Err e) = Unit {0}

module _ (t : List ℕ) where
  passes_from : {f : Frame} {i : ℕ} {o : Result ℕ Flaw} → Passes t f i o → IsFrom i o
  passes_from (passing.unclosed f i past) = tt
  passes_from (passing.quote_ends p i here byte) = omega arith
  passes_from (passing.index_ends p i here byte) = omega arith
  passes_from (passing.bracket_ends p bracket_state i here byte) = omega arith
  passes_from (passing.blank p bracket_state i o some rest) = from_later i _ o (omega arith) (passes_from rest)
  passes_from (passing.ends p bracket_state i o here is rest) = from_later i _ o (omega arith) (passes_from rest)
  passes_from (passing.comment p i o here byte rest) = from_later i _ o (omega arith) (passes_from rest)
  passes_from (passing.quoted p bracket_state i j o here before byte inner rest) = from_later i j o (omega (arith, passes_from inner)) (passes_from rest)
  passes_from (passing.quoted_fails p bracket_state i e here before byte inner) = tt
  passes_from (passing.braced p bracket_state i n o here before byte is rest) = from_later i _ o (omega arith) (passes_from rest)
  passes_from (passing.braced_fails p bracket_state i here before byte is) = tt
  passes_from (passing.after_quote p i is) = tt
  passes_from (passing.after_brace p i is) = tt
  passes_from (passing.plain f g i o on is rest) = from_later i _ o (omega arith) (passes_from rest)
  passes_from (passing.wrong f g i on is) = tt
  passes_from (passing.indexed f g i n j o on is inner rest) = from_later i j o (omega (arith, passes_from inner)) (passes_from rest)
  passes_from (passing.indexed_fails f g i n e on is inner) = tt
  passes_from (passing.bracket f g i j o on is inner rest) = from_later i j o (omega (arith, passes_from inner)) (passes_from rest)
  passes_from (passing.bracket_fails f g i e on is inner) = tt

  -- PARTS
  after_from : (i j : ℕ) (ps : List Part) (o : Result (List Part × ℕ) Flaw) → i ≤ j → EndsFrom j o → EndsFrom i (after_parts ps o)
  after_from i j ps (Ok x) less from = omega (arith, less, from)
  after_from i j ps (Err e) less from = tt

  on_from : (i j : ℕ) (o : Result (List Part × ℕ) Flaw) → i ≤ j → EndsFrom j o → EndsFrom i o
  on_from i j (Ok x) less from = omega (arith, less, from)
  on_from i j (Err e) less from = tt

  closed_from : (c : Closing) (i j : ℕ) → rules.ClosesAt t c i j → i ≤ j
  closed_from Blank i j closed = omega (arith, closed.1)
  closed_from (Quote p) i j closed = omega (arith, closed.2)
  closed_from (Index p) i j closed = omega (arith, closed.2)

  parts_from : {c : Closing} {s i : ℕ} {o : Result (List Part × ℕ) Flaw} → PartsOf t c s i o → EndsFrom i o
  parts_from {c = c} (rules.closed s i j closed) = closed_from c i j closed
  parts_from (rules.unclosed s i e is) = tt
  parts_from (rules.itself s i o on is rest) = on_from i _ o (omega arith) (parts_from rest)
  parts_from (rules.wrong s i on is) = tt
  parts_from (rules.escape s i b n o on is rest) = after_from i _ _ o (omega arith) (parts_from rest)
  parts_from (rules.variable s i n o on is rest) = after_from i _ _ o (omega arith) (parts_from rest)
  parts_from (rules.braced s i n o on is rest) = after_from i _ _ o (omega arith) (parts_from rest)
  parts_from (rules.indexed s i n j o on is inner rest) = after_from i j _ o (omega (arith, passes_from inner)) (parts_from rest)
  parts_from (rules.indexed_fails s i n e on is inner) = tt
  parts_from (rules.script s i j o on is inner rest) = after_from i j _ o (omega (arith, passes_from inner)) (parts_from rest)
  parts_from (rules.script_fails s i e on is inner) = tt

  has_at : (i : ℕ) (k : Token) → token_of (drop i t) ≡ k → HasBytes k
  has_at i k is = subst HasBytes is (token_has (drop i t))

  -- where no word ends, there is a byte of one
  bare_from : {s i : ℕ} {o : Result (List Part × ℕ) Flaw} → PartsOf t Blank s i o → is_word_end (drop i t) ≡ false → EndsFrom (i + 1) o
  bare_from (rules.closed s i j closed) more = absurd (true≢false (sym closed.0 ∙ more))
  bare_from (rules.unclosed s i e is) more = tt
  bare_from (rules.itself s i o on is rest) more = parts_from rest
  bare_from (rules.wrong s i on is) more = tt
  bare_from (rules.escape s i b n o on is rest) more = after_from (i + 1) _ _ o (omega (arith, has_at i (tokens.Escape b n) is)) (parts_from rest)
  bare_from (rules.variable s i n o on is rest) more = after_from (i + 1) _ _ o (omega (arith, has_at i (tokens.Variable n) is)) (parts_from rest)
  bare_from (rules.braced s i n o on is rest) more = after_from (i + 1) _ _ o (omega (arith, has_at i (tokens.Braced n) is)) (parts_from rest)
  bare_from (rules.indexed s i n j o on is inner rest) more = after_from (i + 1) j _ o (omega (arith, passes_from inner, has_at i (tokens.Indexed n) is)) (parts_from rest)
  bare_from (rules.indexed_fails s i n e on is inner) more = tt
  bare_from (rules.script s i j o on is inner rest) more = after_from (i + 1) j _ o (omega (arith, passes_from inner)) (parts_from rest)
  bare_from (rules.script_fails s i e on is inner) more = tt

  -- WORDS
  abbrev StandsAt : ℕ → Result Word Flaw → Type 0
  StandsAt i (Ok w) = (w.start ≡ i) × (i < w.end)
  StandsAt i (Err e) = Unit {0}

  word_stands : {i : ℕ} {o : Result Word Flaw} → WordOf t i o → is_word_end (drop i t) ≡ false → StandsAt i o
  word_stands (rules.bare i j ps quote brace parts) more = (refl, omega (arith, bare_from parts more))
  word_stands (rules.bare_fails i e quote brace parts) more = tt
  word_stands (rules.quoted i j ps quote parts end) more = (refl, omega (arith, parts_from parts))
  word_stands (rules.quoted_fails i e quote parts) more = tt
  word_stands (rules.after_quote i j ps quote parts end) more = tt
  word_stands (rules.in_braces i n ps brace is end parts) more = (refl, omega arith)
  word_stands (rules.braced_fails i brace is) more = tt
  word_stands (rules.after_brace i n brace is end) more = tt

  no_end : (rest : List ℕ) → is_command_end rest ≡ false → blank_of rest ≡ 0 → is_word_end rest ≡ false
  no_end rest more none = ap (λ b. b || nat_lt 0 (blank_of rest)) more ∙ ap (λ n. nat_lt 0 n) none

  -- from a place on words rise, up to another
  abbrev Rise : ℕ → List Word → ℕ → Type 0
  Rise from [] to = from ≤ to
  Rise from (w ∷ ws) to = (from ≤ w.start) × (w.start < w.end) × Rise w.end ws to

  rise_later : (i j to : ℕ) (ws : List Word) → i ≤ j → Rise j ws to → Rise i ws to
  rise_later i j to [] less rise = omega (arith, less, rise)
  rise_later i j to (w ∷ ws) less rise = (omega (arith, less, rise.0), rise.1, rise.2)

  rise_on : (i j to : ℕ) (ws vs : List Word) → Rise i ws j → Rise j vs to → Rise i (ws ++ vs) to
  rise_on i j to [] vs first second = rise_later i j to vs first second
  rise_on i j to (w ∷ ws) vs first second = (first.0, first.1, rise_on w.end j to ws vs first.2 second)

  abbrev WordsRise : ℕ → Result (List Word × ℕ) Flaw → Type 0
  WordsRise i (Ok x) = Rise i x.0 x.1
  WordsRise i (Err e) = Unit {0}

  words_later : (i j : ℕ) (o : Result (List Word × ℕ) Flaw) → i ≤ j → WordsRise j o → WordsRise i o
  words_later i j (Ok x) less rise = rise_later i j x.1 x.0 less rise
  words_later i j (Err e) less rise = tt

  one_more : (i : ℕ) (w : Word) (o : Result (List Word × ℕ) Flaw) → StandsAt i (Ok w) → WordsRise w.end o → WordsRise i (after_words (w ∷ []) o)
  one_more i w (Ok x) stands rise = (omega (arith, stands.0), omega (arith, stands.0, stands.1), rise)
  one_more i w (Err e) stands rise = tt

  words_rise : {i : ℕ} {o : Result (List Word × ℕ) Flaw} → WordsOf t i o → WordsRise i o
  words_rise (rules.ended i end) = omega arith
  words_rise (rules.blank i o more some rest) = words_later i _ o (omega arith) (words_rise rest)
  words_rise (rules.one i w o more none is rest) = one_more i w o (word_stands is (no_end (drop i t) more none)) (words_rise rest)
  words_rise (rules.fails i e more none is) = tt

  -- COMMANDS
  abbrev CommandsRise : ℕ → Result (List Command) Flaw → Type 0
  CommandsRise i (Ok cs) = (to : ℕ) × Rise i (words_of cs) to
  CommandsRise i (Err e) = Unit {0}

  commands_later : (i j : ℕ) (o : Result (List Command) Flaw) → i ≤ j → CommandsRise j o → CommandsRise i o
  commands_later i j (Ok cs) less rise = (rise.0, rise_later i j rise.0 (words_of cs) less rise.1)
  commands_later i j (Err e) less rise = tt

  command_more : (i j line : ℕ) (ws : List Word) (o : Result (List Command) Flaw) → Rise i ws j → CommandsRise j o
      → CommandsRise i (after_commands (record { words = ws; line = line } ∷ []) o)
  command_more i j line ws (Ok cs) first rise = (rise.0, rise_on i j rise.0 ws (words_of cs) first rise.1)
  command_more i j line ws (Err e) first rise = tt

  commands_rise : {i : ℕ} {o : Result (List Command) Flaw} → CommandsOf t i o → CommandsRise i o
  commands_rise (rules.ended i past) = (i, omega arith)
  commands_rise (rules.gap i o less some rest) = commands_later i _ o (omega arith) (commands_rise rest)
  commands_rise (rules.one i j ws o less none words rest) = command_more i j _ ws o (words_rise words) (commands_rise rest)
  commands_rise (rules.fails i e less none words) = tt

  are_rising : (i to : ℕ) (ws : List Word) → Rise i ws to → AreRising i ws
  are_rising i to [] rise = tt
  are_rising i to (w ∷ ws) rise = (rise.0, rise.1, are_rising w.end to ws rise.2)

  pub rising : (cs : List Command) → CommandsOf t 0 (Ok cs) → AreRising 0 (words_of cs)
  rising cs is = let rise = commands_rise is in are_rising 0 rise.0 (words_of cs) rise.1
