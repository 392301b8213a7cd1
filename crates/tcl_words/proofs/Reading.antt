-- Lists that are read one piece after another, and the exits of `?`.
use Rattle.std.proofs.lemmas.List.Elements.{All-push}
use Rattle.std.proofs.lemmas.List.Sums.{sum_by-append}
use Rattle.std.proofs.Math.Seq.{take-add}
use borrow.Author.Tests.{ltb-true, ltb-false}
use Rattle.std.proofs.Common.{◌≡◌, ℕ, ◌+◌, ◌<◌, ◌≤◌, Bool, true, nat_lt, cond, arith, All, List, [], ◌∷◌, ◌++◌, length, drop, take, ◌-◌, ◌==◌, false, Result, Ok, Err, refl, sym, ap, subst, append_assoc, ◌∙◌}
use Rattle.tcl_words.specs.declared.flaw.Flaw.{Flaw}
use Rattle.tcl_words.specs.declared.flaw.Broken.{Broken}
use Rattle.tcl_words.specs.declared.flaw.Broken.TheVariants as broken
use Rattle.tcl_words.specs.declared.word.Part.{Part}
use Rattle.tcl_words.specs.declared.word.Part.TheVariants.{Escape, Plain}
use Rattle.tcl_words.specs.declared.word.Word.{Word}
use Rattle.tcl_words.specs.declared.word.Command.{Command}
use Rattle.tcl_words.specs.declared.tokens.Token.{Token}
use Rattle.tcl_words.specs.declared.tokens.Token.TheVariants as tokens
use Rattle.tcl_words.specs.Gives.{Finds}
use Rattle.tcl_words.specs.Tokens.{joined_of, blank_of, begins_with, comment_from, is_command_end}
use Rattle.tcl_words.specs.Words.{bytes_from, InBraces, joined, WordsOf, blank, CommandsOf, gap, gap_of, after_parts, after_words, after_commands, LiesIn, feeds_of, line_at, IsNoVariable}

-- a fault that is handed on
pub finds_on : {A B : Type 0} (P : Result A Flaw → Type 0) (Q : Result B Flaw → Type 0) (e : Broken)
    → ((f : Flaw) → P (Err f) → Q (Err f)) → Finds P (Err e) → Finds Q (Err e)
finds_on P Q (broken.Flaw f) on h = on f h
finds_on P Q broken.Memory on h = tt

-- want of memory alone is handed on
pub memory_on : {B : Type 0} (Q : Result B Flaw → Type 0) (e : Broken) → e ≡ broken.Memory → Finds Q (Err e)
memory_on Q e is = rw is tt

pub no_parts_before : (o : Result (List Part × ℕ) Flaw) → o ≡ after_parts [] o
no_parts_before (Ok x) = refl
no_parts_before (Err e) = refl

pub parts_before : (ps qs : List Part) (o : Result (List Part × ℕ) Flaw) → after_parts ps (after_parts qs o) ≡ after_parts (ps ++ qs) o
parts_before ps qs (Ok x) = ap (λ (rs : List Part). Ok (rs, x.1)) (sym (append_assoc ps qs x.0))
parts_before ps qs (Err e) = refl

pub words_before : (ps qs : List Word) (o : Result (List Word × ℕ) Flaw) → after_words ps (after_words qs o) ≡ after_words (ps ++ qs) o
words_before ps qs (Ok x) = ap (λ (rs : List Word). Ok (rs, x.1)) (sym (append_assoc ps qs x.0))
words_before ps qs (Err e) = refl

pub commands_before : (ps qs : List Command) (o : Result (List Command) Flaw) → after_commands ps (after_commands qs o) ≡ after_commands (ps ++ qs) o
commands_before ps qs (Ok x) = ap (λ (rs : List Command). Ok rs) (sym (append_assoc ps qs x))
commands_before ps qs (Err e) = refl

module _ (t : List ℕ) where
  pub joined_on : (end s i n : ℕ) (ps : List Part) → i < end → n ≡ joined_of (drop i t) → 0 < n
      → InBraces t end (i + n) (i + n) ps → InBraces t end s i (bytes_from s i ++ Escape 32 ∷ ps)
  joined_on end s i n ps here is some rest =
      joined s i ps here (subst (λ (n : ℕ). 0 < n) is some) (subst (λ (n : ℕ). InBraces t end (i + n) (i + n) ps) is rest)

  pub blank_on : (i n : ℕ) (o : Result (List Word × ℕ) Flaw) → is_command_end (drop i t) ≡ false → n ≡ blank_of (drop i t) → 0 < n
      → WordsOf t (i + n) o → WordsOf t i o
  blank_on i n o more is some rest =
      blank i o more (subst (λ (n : ℕ). 0 < n) is some) (subst (λ (n : ℕ). WordsOf t (i + n) o) is rest)

  pub gap_on : (i n : ℕ) (o : Result (List Command) Flaw) → i < length t → n ≡ gap_of (drop i t) → 0 < n
      → CommandsOf t (i + n) o → CommandsOf t i o
  gap_on i n o here is some rest =
      gap i o here (subst (λ (n : ℕ). 0 < n) is some) (subst (λ (n : ℕ). CommandsOf t (i + n) o) is rest)

-- no further than where a test turns, it moved
pub moves : (f : ℕ → Bool) (s i : ℕ) → f s ≡ false → f i ≡ true → s ≤ i → s < i
moves f s i before behind le = grind arith

pub moved : (f : ℕ → ℕ) (s i : ℕ) → f s ≡ 0 → 0 < f i → s ≤ i → s < i
moved f s i before behind le = grind arith

none_by : (b : Bool) (n k : ℕ) → nat_lt 0 n ≡ b → cond b n k ≡ 0 → n ≡ 0
none_by true n k is e = e
none_by false n k is e = omega (arith, ltb-false 0 n is)

none_from : (a : Bool) (n k : ℕ) → cond a 1 (cond (nat_lt 0 n) n k) ≡ 0 → (a ≡ false) × (n ≡ 0)
none_from true n k e = absurd (omega arith)
none_from false n k e = (refl, none_by (nat_lt 0 n) n k refl e)

-- where no gap is, no command ends and no blank stands
pub gap_none : (rest : List ℕ) → gap_of rest ≡ 0 → (is_command_end rest ≡ false) × (blank_of rest ≡ 0)
gap_none rest none = none_from (is_command_end rest) (blank_of rest) (cond (begins_with 35 rest) (comment_from false rest) 0) none

-- the line feeds of two texts
pub feeds_both : (xs ys : List ℕ) → feeds_of (xs ++ ys) ≡ feeds_of xs + feeds_of ys
feeds_both xs ys = sum_by-append (λ b. cond (b == 10) 1 0) xs ys

-- the line of a place, from that of an earlier one
pub line_on : (t : List ℕ) (i j : ℕ) → i ≤ j → line_at t i + feeds_of (take (j - i) (drop i t)) ≡ line_at t j
line_on t i j le =
    let split : take j t ≡ take i t ++ take (j - i) (drop i t) = ap (λ (n : ℕ). take n t) (omega arith) ∙ take-add i (j - i) t in
    rw split (omega (arith, feeds_both (take i t) (take (j - i) (drop i t))))

lie_by : (n s i : ℕ) (b : Bool) → nat_lt s i ≡ b → i ≤ n → All (LiesIn n) (cond b (Plain s i ∷ []) [])
lie_by n s i true e h = All-push (LiesIn n) [] (Plain s i) (λ k d lt. absurd (omega (arith, lt))) (ltb-true s i e, h)
lie_by n s i false e h = λ k d lt. absurd (omega (arith, lt))

-- bytes up to a place of a text lie in it
pub bytes_lie : (n s i : ℕ) → i ≤ n → All (LiesIn n) (bytes_from s i)
bytes_lie n s i h = lie_by n s i (nat_lt s i) refl h

-- a token that is no variable
pub no_variable : (k : Token) → ((n : ℕ) → k ≡ tokens.Variable n → ⊥) → ((n : ℕ) → k ≡ tokens.Braced n → ⊥)
    → ((n : ℕ) → k ≡ tokens.Indexed n → ⊥) → IsNoVariable k
no_variable tokens.Byte a b c = tt
no_variable (tokens.Escape byte size) a b c = tt
no_variable tokens.Wrong a b c = tt
no_variable (tokens.Variable n) a b c = absurd (a n refl)
no_variable (tokens.Braced n) a b c = absurd (b n refl)
no_variable (tokens.Indexed n) a b c = absurd (c n refl)
no_variable tokens.Bracket a b c = tt
