-- The commands of a text, their words and the parts of these.
use Rattle.std.specs.Prelude.{◌≡◌, ◌≢◌, ℕ, ◌+◌, ◌-◌, ◌<◌, ◌≤◌, ◌==◌, List, [], ◌∷◌, ◌++◌, Option, Some, None, Result, Ok, Err, true, false, length, drop, take, slice_index, nat_lt, if◌then◌else◌, All}
use Rattle.std.specs.List.{count_by}
use Rattle.lab_base.specs.declared.fault.Kind.TheVariants as kinds
use Rattle.lab_base.specs.declared.fault.TextRefused.{TextRefused}
use Rattle.lab_base.specs.declared.fault.TextRefused.TheVariants as refused
use Rattle.tcl_words.specs.declared.flaw.Flaw.{Flaw}
use Rattle.tcl_words.specs.declared.frame.BracketState.TheVariants.{Start}
use Rattle.tcl_words.specs.declared.frame.Frame.TheVariants as frames
use Rattle.std.specs.Option.{ForSome}
use Rattle.tcl_words.specs.declared.tokens.Token.{Token}
use Rattle.tcl_words.specs.declared.tokens.Token.TheVariants as tokens
use Rattle.tcl_words.specs.declared.word.WordKind.{WordKind}
use Rattle.tcl_words.specs.declared.word.WordKind.TheVariants as written
use Rattle.tcl_words.specs.declared.word.Part.{Part}
use Rattle.tcl_words.specs.declared.word.Part.TheVariants.{Plain, Escape, Variable, Script}
use Rattle.tcl_words.specs.declared.word.Word.{Word}
use Rattle.tcl_words.specs.declared.word.Command.{Command}
use Rattle.tcl_words.specs.declared.word.Reference.{Reference}
use Rattle.tcl_words.specs.declared.parts.Closing.{Closing}
use Rattle.tcl_words.specs.declared.parts.Closing.TheVariants.{Blank, Quote, Index}
use Rattle.tcl_words.specs.Tokens.{token_of, blank_of, joined_of, begins_with, is_command_end, is_word_end, comment_from, braces_from}
use Rattle.tcl_words.specs.Passes.{flaw, Passes}

-- the parts are closed here, and that is the place after what closes them
abbrev pub ClosesAt : List ℕ → Closing → ℕ → ℕ → Type 0
ClosesAt t Blank i j = (is_word_end (drop i t) ≡ true) × (j ≡ i)
ClosesAt t (Quote opened) i j = (i < length t) × (slice_index t i ≡ 34) × (j ≡ i + 1)
ClosesAt t (Index opened) i j = (i < length t) × (slice_index t i ≡ 41) × (j ≡ i + 1)

-- they go on here
abbrev pub GoesOnAt : List ℕ → Closing → ℕ → Type 0
GoesOnAt t Blank i = (i < length t) × (is_word_end (drop i t) ≡ false)
GoesOnAt t (Quote opened) i = (i < length t) × (slice_index t i ≢ 34)
GoesOnAt t (Index opened) i = (i < length t) × (slice_index t i ≢ 41)

-- the text ends before they are closed
abbrev pub IsUnclosed : List ℕ → Closing → ℕ → Flaw → Type 0
IsUnclosed t Blank i e = ⊥
IsUnclosed t (Quote opened) i e = (length t ≤ i) × (e ≡ flaw kinds.Quote opened)
IsUnclosed t (Index opened) i e = (length t ≤ i) × (e ≡ flaw kinds.Bracket opened)

-- the bytes from one place to another, if there are any
abbrev pub bytes_from : ℕ → ℕ → List Part
bytes_from s i = if nat_lt s i then Plain s i ∷ [] else []

-- these parts come first
abbrev pub after_parts : List Part → Result (List Part × ℕ) Flaw → Result (List Part × ℕ) Flaw
after_parts ps (Ok x) = Ok (ps ++ x.0, x.1)
after_parts ps (Err e) = Err e

-- The parts from the place i on, where the bytes from s to i stand for themselves: they, and the place after what
-- closes them, or a fault.
pub data PartsOf (t : List ℕ) (c : Closing) : ℕ → ℕ → Result (List Part × ℕ) Flaw → Type 0 where
  closed : (s i j : ℕ) → ClosesAt t c i j → PartsOf t c s i (Ok (bytes_from s i, j))
  unclosed : (s i : ℕ) (e : Flaw) → IsUnclosed t c i e → PartsOf t c s i (Err e)
  itself : (s i : ℕ) (o : Result (List Part × ℕ) Flaw) → GoesOnAt t c i → token_of (drop i t) ≡ tokens.Byte
      → PartsOf t c s (i + 1) o → PartsOf t c s i o
  wrong : (s i : ℕ) → GoesOnAt t c i → token_of (drop i t) ≡ tokens.Wrong → PartsOf t c s i (Err (flaw kinds.Escape i))
  escape : (s i b n : ℕ) (o : Result (List Part × ℕ) Flaw) → GoesOnAt t c i → token_of (drop i t) ≡ tokens.Escape b n
      → PartsOf t c (i + n) (i + n) o → PartsOf t c s i (after_parts (bytes_from s i ++ Escape b ∷ []) o)
  variable : (s i n : ℕ) (o : Result (List Part × ℕ) Flaw) → GoesOnAt t c i → token_of (drop i t) ≡ tokens.Variable n
      → PartsOf t c (i + n) (i + n) o → PartsOf t c s i (after_parts (bytes_from s i ++ Variable i (i + n) ∷ []) o)
  braced : (s i n : ℕ) (o : Result (List Part × ℕ) Flaw) → GoesOnAt t c i → token_of (drop i t) ≡ tokens.Braced n
      → PartsOf t c (i + n) (i + n) o → PartsOf t c s i (after_parts (bytes_from s i ++ Variable i (i + n) ∷ []) o)
  indexed : (s i n j : ℕ) (o : Result (List Part × ℕ) Flaw) → GoesOnAt t c i → token_of (drop i t) ≡ tokens.Indexed n
      → Passes t (frames.Index (i + n - 1)) (i + n) (Ok j) → PartsOf t c j j o
      → PartsOf t c s i (after_parts (bytes_from s i ++ Variable i j ∷ []) o)
  indexed_fails : (s i n : ℕ) (e : Flaw) → GoesOnAt t c i → token_of (drop i t) ≡ tokens.Indexed n
      → Passes t (frames.Index (i + n - 1)) (i + n) (Err e) → PartsOf t c s i (Err e)
  script : (s i j : ℕ) (o : Result (List Part × ℕ) Flaw) → GoesOnAt t c i → token_of (drop i t) ≡ tokens.Bracket
      → Passes t (frames.Bracket i Start) (i + 1) (Ok j) → PartsOf t c j j o
      → PartsOf t c s i (after_parts (bytes_from s i ++ Script (i + 1) (j - 1) ∷ []) o)
  script_fails : (s i : ℕ) (e : Flaw) → GoesOnAt t c i → token_of (drop i t) ≡ tokens.Bracket
      → Passes t (frames.Bracket i Start) (i + 1) (Err e) → PartsOf t c s i (Err e)

-- The parts between braces: bytes, and a blank for each line that goes on.
pub data InBraces (t : List ℕ) (end : ℕ) : ℕ → ℕ → List Part → Type 0 where
  done : (s i : ℕ) → end ≤ i → InBraces t end s i (bytes_from s end)
  joined : (s i : ℕ) (ps : List Part) → i < end → 0 < joined_of (drop i t)
      → InBraces t end (i + joined_of (drop i t)) (i + joined_of (drop i t)) ps → InBraces t end s i (bytes_from s i ++ Escape 32 ∷ ps)
  hidden : (s i : ℕ) (ps : List Part) → i < end → joined_of (drop i t) ≡ 0 → slice_index t i ≡ 92
      → InBraces t end s (i + 2) ps → InBraces t end s i ps
  other : (s i : ℕ) (ps : List Part) → i < end → slice_index t i ≢ 92 → InBraces t end s (i + 1) ps → InBraces t end s i ps

-- a word
abbrev pub word : WordKind → ℕ → ℕ → List Part → Word
word kind start end parts = record { kind = kind; start = start; end = end; parts = parts }

-- The word at a place, or a fault.
pub data WordOf (t : List ℕ) : ℕ → Result Word Flaw → Type 0 where
  bare : (i j : ℕ) (ps : List Part) → slice_index t i ≢ 34 → slice_index t i ≢ 123 → PartsOf t Blank i i (Ok (ps, j))
      → WordOf t i (Ok (word written.Bare i j ps))
  bare_fails : (i : ℕ) (e : Flaw) → slice_index t i ≢ 34 → slice_index t i ≢ 123 → PartsOf t Blank i i (Err e) → WordOf t i (Err e)
  quoted : (i j : ℕ) (ps : List Part) → slice_index t i ≡ 34 → PartsOf t (Quote i) (i + 1) (i + 1) (Ok (ps, j))
      → is_word_end (drop j t) ≡ true → WordOf t i (Ok (word written.Quoted i j ps))
  quoted_fails : (i : ℕ) (e : Flaw) → slice_index t i ≡ 34 → PartsOf t (Quote i) (i + 1) (i + 1) (Err e) → WordOf t i (Err e)
  after_quote : (i j : ℕ) (ps : List Part) → slice_index t i ≡ 34 → PartsOf t (Quote i) (i + 1) (i + 1) (Ok (ps, j))
      → is_word_end (drop j t) ≡ false → WordOf t i (Err (flaw kinds.AfterQuote j))
  in_braces : (i n : ℕ) (ps : List Part) → slice_index t i ≡ 123 → braces_from false 1 (drop (i + 1) t) ≡ Some n
      → is_word_end (drop (i + 1 + n) t) ≡ true → InBraces t (i + n) (i + 1) (i + 1) ps
      → WordOf t i (Ok (word written.Braced i (i + 1 + n) ps))
  braced_fails : (i : ℕ) → slice_index t i ≡ 123 → braces_from false 1 (drop (i + 1) t) ≡ None → WordOf t i (Err (flaw kinds.Brace i))
  after_brace : (i n : ℕ) → slice_index t i ≡ 123 → braces_from false 1 (drop (i + 1) t) ≡ Some n
      → is_word_end (drop (i + 1 + n) t) ≡ false → WordOf t i (Err (flaw kinds.AfterBrace (i + 1 + n)))

-- these words come first
abbrev pub after_words : List Word → Result (List Word × ℕ) Flaw → Result (List Word × ℕ) Flaw
after_words ws (Ok x) = Ok (ws ++ x.0, x.1)
after_words ws (Err e) = Err e

-- The words from a place on up to the end of their command, and the place of that, or a fault.
pub data WordsOf (t : List ℕ) : ℕ → Result (List Word × ℕ) Flaw → Type 0 where
  ended : (i : ℕ) → is_command_end (drop i t) ≡ true → WordsOf t i (Ok ([], i))
  blank : (i : ℕ) (o : Result (List Word × ℕ) Flaw) → is_command_end (drop i t) ≡ false → 0 < blank_of (drop i t)
      → WordsOf t (i + blank_of (drop i t)) o → WordsOf t i o
  one : (i : ℕ) (w : Word) (o : Result (List Word × ℕ) Flaw) → is_command_end (drop i t) ≡ false → blank_of (drop i t) ≡ 0
      → WordOf t i (Ok w) → WordsOf t w.end o → WordsOf t i (after_words (w ∷ []) o)
  fails : (i : ℕ) (e : Flaw) → is_command_end (drop i t) ≡ false → blank_of (drop i t) ≡ 0
      → WordOf t i (Err e) → WordsOf t i (Err e)

-- how many bytes at the front belong to no command
abbrev pub gap_of : List ℕ → ℕ
gap_of rest =
    if is_command_end rest then 1
    else (if nat_lt 0 (blank_of rest) then blank_of rest
    else (if begins_with 35 rest then comment_from false rest else 0))

-- how many line feeds there are
abbrev pub feeds_of : List ℕ → ℕ
feeds_of bytes = count_by (λ b. b == 10) bytes

-- the line of a place
abbrev pub line_at : List ℕ → ℕ → ℕ
line_at t i = 1 + feeds_of (take i t)

-- these commands come first
abbrev pub after_commands : List Command → Result (List Command) Flaw → Result (List Command) Flaw
after_commands cs (Ok ds) = Ok (cs ++ ds)
after_commands cs (Err e) = Err e

-- The commands from a place on, or the first fault.
pub data CommandsOf (t : List ℕ) : ℕ → Result (List Command) Flaw → Type 0 where
  ended : (i : ℕ) → length t ≤ i → CommandsOf t i (Ok [])
  gap : (i : ℕ) (o : Result (List Command) Flaw) → i < length t → 0 < gap_of (drop i t)
      → CommandsOf t (i + gap_of (drop i t)) o → CommandsOf t i o
  one : (i j : ℕ) (ws : List Word) (o : Result (List Command) Flaw) → i < length t → gap_of (drop i t) ≡ 0
      → WordsOf t i (Ok (ws, j)) → CommandsOf t j o
      → CommandsOf t i (after_commands (record { words = ws; line = line_at t i } ∷ []) o)
  fails : (i : ℕ) (e : Flaw) → i < length t → gap_of (drop i t) ≡ 0 → WordsOf t i (Err e) → CommandsOf t i (Err e)

-- the text has a first fault, and this is its line, unless memory ran out
abbrev pub IsRefused : List ℕ → TextRefused → Type 0
IsRefused t (refused.Text fault) = (e : Flaw) × CommandsOf t 0 (Err e) × (fault.kind ≡ e.kind) × (fault.line ≡ line_at t e.at)
IsRefused t refused.Memory = Unit {0}

-- a variable where it stands: the places of its name, its index if it has one, and the place after it
abbrev pub reference : ℕ → ℕ → Option (List Part) → ℕ → Reference
reference from to index end = record { name_start = from; name_end = to; index = index; end = end }

-- no variable stands there
abbrev pub IsNoVariable : Token → Type 0
IsNoVariable tokens.Byte = Unit {0}
IsNoVariable (tokens.Escape byte size) = Unit {0}
IsNoVariable tokens.Wrong = Unit {0}
IsNoVariable (tokens.Variable size) = ⊥
IsNoVariable (tokens.Braced size) = ⊥
IsNoVariable (tokens.Indexed size) = ⊥
IsNoVariable tokens.Bracket = Unit {0}

-- The variable at a place, if one stands there, or the fault of its index.
pub data ReferenceOf (t : List ℕ) (i : ℕ) : Result (Option Reference) Flaw → Type 0 where
  named : (n : ℕ) → token_of (drop i t) ≡ tokens.Variable n → ReferenceOf t i (Ok (Some (reference (i + 1) (i + n) None (i + n))))
  braced : (n : ℕ) → token_of (drop i t) ≡ tokens.Braced n → ReferenceOf t i (Ok (Some (reference (i + 2) (i + n - 1) None (i + n))))
  indexed : (n j : ℕ) (ps : List Part) → token_of (drop i t) ≡ tokens.Indexed n
      → PartsOf t (Index (i + n - 1)) (i + n) (i + n) (Ok (ps, j))
      → ReferenceOf t i (Ok (Some (reference (i + 1) (i + n - 1) (Some ps) j)))
  indexed_fails : (n : ℕ) (e : Flaw) → token_of (drop i t) ≡ tokens.Indexed n
      → PartsOf t (Index (i + n - 1)) (i + n) (i + n) (Err e) → ReferenceOf t i (Err e)
  nothing : IsNoVariable (token_of (drop i t)) → ReferenceOf t i (Ok None)

-- a part lies in a text of this length
abbrev pub LiesIn : ℕ → Part → Type 0
LiesIn n (Plain start end) = (start < end) × (end ≤ n)
LiesIn n (Escape byte) = Unit {0}
LiesIn n (Variable start end) = (start < end) × (end ≤ n)
LiesIn n (Script start end) = (start ≤ end) × (end < n)

-- a variable's name and index lie in the text after its place
abbrev pub ReferenceLies : ℕ → ℕ → Reference → Type 0
ReferenceLies n i r = (r.name_start ≤ r.name_end) × (r.name_end ≤ n) × (i < r.end) × (r.end ≤ n) × ForSome r.index (All (LiesIn n))

-- it begins at this place, and it and its parts lie in the text
abbrev pub WordBeginsAt : List ℕ → ℕ → Word → Type 0
WordBeginsAt t i w = (w.start ≡ i) × (i < w.end) × (w.end ≤ length t) × All (LiesIn (length t)) w.parts

-- so do the parts of a word and of the words of a command
abbrev pub WordLiesIn : ℕ → Word → Type 0
WordLiesIn n w = (w.start < w.end) × (w.end ≤ n) × All (LiesIn n) w.parts

abbrev pub CommandLiesIn : ℕ → Command → Type 0
CommandLiesIn n c = (0 < length c.words) × All (WordLiesIn n) c.words
