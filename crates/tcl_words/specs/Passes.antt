-- How brackets, quotes and indexes nest, and where each ends.
use Rattle.std.specs.Prelude.{◌≡◌, ◌≢◌, ℕ, ◌+◌, ◌-◌, ◌<◌, ◌≤◌, List, Some, None, Result, Ok, Err, true, false, length, drop, slice_index}
use Rattle.lab_base.specs.declared.fault.Kind.{Kind}
use Rattle.lab_base.specs.declared.fault.Kind.TheVariants as kinds
use Rattle.tcl_words.specs.declared.flaw.Flaw.{Flaw}
use Rattle.tcl_words.specs.declared.frame.BracketState.{BracketState}
use Rattle.tcl_words.specs.declared.frame.BracketState.TheVariants.{Start, Between, Inside, AfterQuote, AfterBrace}
use Rattle.tcl_words.specs.declared.frame.Frame.{Frame}
use Rattle.tcl_words.specs.declared.frame.Frame.TheVariants.{Bracket, Quote, Index}
use Rattle.tcl_words.specs.declared.frame.Step.{Step}
use Rattle.tcl_words.specs.declared.frame.Step.TheVariants.{Goes, Opens, Closes, Fails}
use Rattle.tcl_words.specs.declared.tokens.Token.{Token}
use Rattle.tcl_words.specs.declared.tokens.Token.TheVariants as tokens
use Rattle.tcl_words.specs.Tokens.{token_of, token_size, blank_of, is_command_end, comment_from, braces_from}

-- a fault at a place
abbrev pub flaw : Kind → ℕ → Flaw
flaw kind at = record { kind = kind; at = at }

-- the fault of what isn't closed, at the place where it was opened
abbrev pub flaw_of : Frame → Flaw
flaw_of (Bracket opened bracket_state) = flaw kinds.Bracket opened
flaw_of (Quote opened) = flaw kinds.Quote opened
flaw_of (Index opened) = flaw kinds.Bracket opened

-- where one is in a bracket after a blank
abbrev pub after_blank : BracketState → BracketState
after_blank Start = Start
after_blank Between = Between
after_blank Inside = Between
after_blank AfterQuote = Between
after_blank AfterBrace = Between

-- a word of a bracket can begin
abbrev pub IsBefore : BracketState → Type 0
IsBefore Start = Unit {0}
IsBefore Between = Unit {0}
IsBefore Inside = ⊥
IsBefore AfterQuote = ⊥
IsBefore AfterBrace = ⊥

-- this byte begins or goes on with a bare word there
abbrev pub IsBare : BracketState → ℕ → Type 0
IsBare Start b = (b ≢ 35) × (b ≢ 34) × (b ≢ 123)
IsBare Between b = (b ≢ 34) × (b ≢ 123)
IsBare Inside b = Unit {0}
IsBare AfterQuote b = ⊥
IsBare AfterBrace b = ⊥

-- no blank, end of a command or end of the bracket is there
pub record InBracket (t : List ℕ) (i : ℕ) : Type 0 where
  pub here : i < length t
  pub no_blank : blank_of (drop i t) ≡ 0
  pub no_end : is_command_end (drop i t) ≡ false
  pub no_close : slice_index t i ≢ 93

-- at that place substitution is made, and after it one is in this frame
abbrev pub GoesOn : List ℕ → Frame → ℕ → Frame → Type 0
GoesOn t (Bracket opened bracket_state) i g = InBracket t i × IsBare bracket_state (slice_index t i) × (g ≡ Bracket opened Inside)
GoesOn t (Quote opened) i g = (i < length t) × (slice_index t i ≢ 34) × (g ≡ Quote opened)
GoesOn t (Index opened) i g = (i < length t) × (slice_index t i ≢ 41) × (g ≡ Index opened)

-- it is read at once
abbrev pub IsPlain : Token → Type 0
IsPlain tokens.Byte = Unit {0}
IsPlain (tokens.Escape byte size) = Unit {0}
IsPlain tokens.Wrong = ⊥
IsPlain (tokens.Variable size) = Unit {0}
IsPlain (tokens.Braced size) = Unit {0}
IsPlain (tokens.Indexed size) = ⊥
IsPlain tokens.Bracket = ⊥

-- From a place inside this frame the text goes on to the place after what closes it, or to a fault.
pub data Passes (t : List ℕ) : Frame → ℕ → Result ℕ Flaw → Type 0 where
  -- the text ends, and it isn't closed
  unclosed : (f : Frame) (i : ℕ) → length t ≤ i → Passes t f i (Err (flaw_of f))
  -- it is closed
  quote_ends : (p i : ℕ) → i < length t → slice_index t i ≡ 34 → Passes t (Quote p) i (Ok (i + 1))
  index_ends : (p i : ℕ) → i < length t → slice_index t i ≡ 41 → Passes t (Index p) i (Ok (i + 1))
  bracket_ends : (p : ℕ) (bracket_state : BracketState) (i : ℕ) → i < length t → slice_index t i ≡ 93 → Passes t (Bracket p bracket_state) i (Ok (i + 1))
  -- between the words and commands of a bracket
  blank : (p : ℕ) (bracket_state : BracketState) (i : ℕ) (o : Result ℕ Flaw) → 0 < blank_of (drop i t)
      → Passes t (Bracket p (after_blank bracket_state)) (i + blank_of (drop i t)) o → Passes t (Bracket p bracket_state) i o
  ends : (p : ℕ) (bracket_state : BracketState) (i : ℕ) (o : Result ℕ Flaw) → i < length t → is_command_end (drop i t) ≡ true
      → Passes t (Bracket p Start) (i + 1) o → Passes t (Bracket p bracket_state) i o
  comment : (p i : ℕ) (o : Result ℕ Flaw) → i < length t → slice_index t i ≡ 35
      → Passes t (Bracket p Start) (i + comment_from false (drop i t)) o → Passes t (Bracket p Start) i o
  -- quoted and braced words of a bracket, and what stands after them
  quoted : (p : ℕ) (bracket_state : BracketState) (i j : ℕ) (o : Result ℕ Flaw) → i < length t → IsBefore bracket_state → slice_index t i ≡ 34
      → Passes t (Quote i) (i + 1) (Ok j) → Passes t (Bracket p AfterQuote) j o → Passes t (Bracket p bracket_state) i o
  quoted_fails : (p : ℕ) (bracket_state : BracketState) (i : ℕ) (e : Flaw) → i < length t → IsBefore bracket_state → slice_index t i ≡ 34
      → Passes t (Quote i) (i + 1) (Err e) → Passes t (Bracket p bracket_state) i (Err e)
  braced : (p : ℕ) (bracket_state : BracketState) (i n : ℕ) (o : Result ℕ Flaw) → i < length t → IsBefore bracket_state → slice_index t i ≡ 123
      → braces_from false 1 (drop (i + 1) t) ≡ Some n → Passes t (Bracket p AfterBrace) (i + 1 + n) o → Passes t (Bracket p bracket_state) i o
  braced_fails : (p : ℕ) (bracket_state : BracketState) (i : ℕ) → i < length t → IsBefore bracket_state → slice_index t i ≡ 123
      → braces_from false 1 (drop (i + 1) t) ≡ None → Passes t (Bracket p bracket_state) i (Err (flaw kinds.Brace i))
  after_quote : (p i : ℕ) → InBracket t i → Passes t (Bracket p AfterQuote) i (Err (flaw kinds.AfterQuote i))
  after_brace : (p i : ℕ) → InBracket t i → Passes t (Bracket p AfterBrace) i (Err (flaw kinds.AfterBrace i))
  -- what stands where substitution is made
  plain : (f g : Frame) (i : ℕ) (o : Result ℕ Flaw) → GoesOn t f i g → IsPlain (token_of (drop i t))
      → Passes t g (i + token_size (token_of (drop i t))) o → Passes t f i o
  wrong : (f g : Frame) (i : ℕ) → GoesOn t f i g → token_of (drop i t) ≡ tokens.Wrong → Passes t f i (Err (flaw kinds.Escape i))
  indexed : (f g : Frame) (i n j : ℕ) (o : Result ℕ Flaw) → GoesOn t f i g → token_of (drop i t) ≡ tokens.Indexed n
      → Passes t (Index (i + n - 1)) (i + n) (Ok j) → Passes t g j o → Passes t f i o
  indexed_fails : (f g : Frame) (i n : ℕ) (e : Flaw) → GoesOn t f i g → token_of (drop i t) ≡ tokens.Indexed n
      → Passes t (Index (i + n - 1)) (i + n) (Err e) → Passes t f i (Err e)
  bracket : (f g : Frame) (i j : ℕ) (o : Result ℕ Flaw) → GoesOn t f i g → token_of (drop i t) ≡ tokens.Bracket
      → Passes t (Bracket i Start) (i + 1) (Ok j) → Passes t g j o → Passes t f i o
  bracket_fails : (f g : Frame) (i : ℕ) (e : Flaw) → GoesOn t f i g → token_of (drop i t) ≡ tokens.Bracket
      → Passes t (Bracket i Start) (i + 1) (Err e) → Passes t f i (Err e)

-- what a step says of what follows from it
abbrev pub Leads : List ℕ → Frame → ℕ → Step → Type 0
Leads t f i (Goes g j) = (o : Result ℕ Flaw) → Passes t g j o → Passes t f i o
Leads t f i (Opens inner j g) =
    ((m : ℕ) (o : Result ℕ Flaw) → Passes t inner j (Ok m) → Passes t g m o → Passes t f i o)
    × ((e : Flaw) → Passes t inner j (Err e) → Passes t f i (Err e))
Leads t f i (Closes j) = Passes t f i (Ok j)
Leads t f i (Fails e) = Passes t f i (Err e)

-- a step goes forward, and stays in the text
abbrev pub IsForward : List ℕ → ℕ → Step → Type 0
IsForward t i (Goes g j) = (i < j) × (j ≤ length t)
IsForward t i (Opens inner j g) = (i < j) × (j ≤ length t)
IsForward t i (Closes j) = (i < j) × (j ≤ length t)
IsForward t i (Fails e) = Unit {0}
