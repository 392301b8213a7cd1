-- Blocks of lines.
use Rattle.std.proofs.Common.{◌≡◌, ℕ, zero, suc, ◌+◌, ◌*◌, ◌<◌, ◌≤◌, inl, inr, Some, None, List, [], ◌∷◌, ◌++◌, length, append_assoc, length-append, arith, Option, refl, sym, subst, ap, ◌∙◌}
use Rattle.std.proofs.lemmas.List.{append-nil}
use Rattle.std.specs.Io.KnownBytes.{IsAtEnd}
use Rattle.lab_io.specs.Lines.{lines_from}
use Rattle.lab_io.specs.Passed.{Stand, IsSettled, Passed}
use Rattle.lab_io.proofs.Passing.{passed_none, passed_more}
use Rattle.script_text.specs.Commands.{Lines, Whole, Short, block}
use Rattle.script_text.specs.Taking.{known, joined, StartsLong, NoLine, HasLong, HasNoLine, Blocked, Fewer, NoLonger}
use Rattle.lab_base.specs.Lists.{Has}
use Rattle.lab_base.proofs.Members.{Has-append}
use Rattle.lab_base.proofs.Numbers.{plus_zero}
use Rattle.script_text.specs.Blocks.{IsBlock}
use Rattle.script_text.proofs.Taken.{told_lines}

-- lines enough are a block
pub block_whole : (texts : List (List ℕ)) (text : List ℕ) (n : ℕ) (more : Lines) → block (length texts) text n (known texts ++ more) ≡ Whole (text ++ joined texts) (n + length texts) more
block_whole [] text n more = λ i. Whole (sym (append-nil text) i) (plus_zero n i) more
block_whole (t ∷ texts) text n more =
    block_whole texts (text ++ t ++ 10 ∷ []) (n + 1) more ∙ (λ i. Whole (text_is i) (number i) more)
  where
    text_is : text ++ t ++ 10 ∷ [] ++ joined texts ≡ text ++ joined (t ∷ texts)
    text_is = ap (λ (l : List ℕ). l ++ joined texts) (append_assoc text t (10 ∷ [])) ∙ append_assoc text (t ++ 10 ∷ []) (joined texts)

    number : n + 1 + length texts ≡ n + length (t ∷ texts)
    number = omega arith

-- fewer are not, where no line follows
pub block_short : (k : ℕ) (texts : List (List ℕ)) (text : List ℕ) (n : ℕ) (more : Lines) → length texts < k → NoLine more → block k text n (known texts ++ more) ≡ Short (n + length texts + 1)
block_short zero texts text n more few none = absurd (omega arith)
block_short (suc k) [] text n [] few none = ap (λ (m : ℕ). Short m) (omega arith)
block_short (suc k) [] text n (None ∷ more) few none = ap (λ (m : ℕ). Short m) (omega arith)
block_short (suc k) [] text n (Some line ∷ more) few none = absurd none
block_short (suc k) (t ∷ texts) text n more few none = block_short k texts (text ++ t ++ 10 ∷ []) (n + 1) more (omega arith) none ∙ ap (λ (m : ℕ). Short m) (omega arith)

-- NO LINE YET
pub none_blocked : (a : Stand) → IsSettled a → Blocked a a 0 []
none_blocked a settled = record { texts = []; passed = passed_none a a settled (λ h. h) refl refl refl; all = refl; text_is = refl }

joined_on : (texts : List (List ℕ)) (line : List ℕ) → joined (texts ++ line ∷ []) ≡ joined texts ++ line ++ 10 ∷ []
joined_on [] line = append-nil (line ++ 10 ∷ [])
joined_on (t ∷ texts) line =
    ap (λ (l : List ℕ). t ++ 10 ∷ [] ++ l) (joined_on texts line)
    ∙ sym (append_assoc (t ++ 10 ∷ []) (joined texts ++ line) (10 ∷ []) ∙ ap (λ (l : List ℕ). t ++ 10 ∷ [] ++ l) refl)
    ∙ ap (λ (l : List ℕ). l ++ 10 ∷ []) (sym (append_assoc (t ++ 10 ∷ []) (joined texts) line))

-- ONE LINE MORE
pub blocked_on : (a b c : Stand) (k : ℕ) (text with_line new line : List ℕ) → Blocked a b k text → Passed b c (line ∷ []) → with_line ≡ text ++ line → new ≡ with_line ++ 10 ∷ [] → Blocked a c (k + 1) new
blocked_on a b c k text with_line new line s p is_line is = record {
  texts = s.texts ++ line ∷ [];
  passed = passed_more a b c s.texts (line ∷ []) s.passed p;
  all = length-append s.texts (line ∷ []) ∙ ap (λ (n : ℕ). n + 1) s.all;
  text_is = is ∙ ap (λ (l : List ℕ). l ++ 10 ∷ []) (is_line ∙ ap (λ (l : List ℕ). l ++ line) s.text_is) ∙ sym (joined_on s.texts line);
}

pub fewer : (a b : Stand) (k count : ℕ) (text : List ℕ) → Blocked a b k text → k < count → Fewer a b count
fewer a b k count text s few = record { texts = s.texts; passed = s.passed; few = omega (arith, s.all) }

-- no line more, or one
pub no_longer : (a b new : Stand) (k count : ℕ) (text : List ℕ) → Blocked a b k text → k ≤ count → new.rest ≡ b.rest → NoLonger a new count
no_longer a b new k count text s few same = record { mid = b; texts = s.texts; passed = s.passed; same = same; few = omega (arith, s.all, few) }

pub one_longer : (a b new : Stand) (k count : ℕ) (text : List ℕ) (more : List (List ℕ)) → Blocked a b k text → Passed b new more → k + length more ≤ count → NoLonger a new count
one_longer a b new k count text more s p few =
    record { mid = new; texts = s.texts ++ more; passed = passed_more a b new s.texts more s.passed p; same = refl; few = omega (arith, length-append s.texts more, s.all, few) }

-- where the end is, there is no line
pub end_no_line : (b c : Stand) → Passed b c [] → IsAtEnd c.rest → HasNoLine b
end_no_line b c p end bytes is =
    let told = told_lines b c [] bytes p is in
    let empty : told.0 ≡ [] = subst (λ (o : Option (List ℕ)). IsAtEnd o) told.1 end in
    subst (λ (l : Lines). NoLine l) (sym (told.2 ∙ ap (λ (r : List ℕ). lines_from c.taken r) empty)) tt

pub long_no_line : (b : Stand) → HasLong b → HasNoLine b
long_no_line b long bytes is = by (lines_from b.taken bytes) (long bytes is)
  where
    by : (lines : Lines) → StartsLong lines → NoLine lines
    by [] h = absurd h
    by (None ∷ lines) h = tt
    by (Some line ∷ lines) h = absurd h

-- THE BLOCK OF A COMMAND, line by line
pub none_block : IsBlock 0 []
none_block = record { lines = []; few = omega arith; all = refl; short = λ line h. absurd h; text_is = refl }

pub block_on : (k : ℕ) (text with_line new line : List ℕ) → IsBlock k text → k + 1 ≤ 16384 → length line ≤ 4096 → with_line ≡ text ++ line → new ≡ with_line ++ 10 ∷ [] → IsBlock (k + 1) new
block_on k text with_line new line b few short is_line is = record {
  lines = b.lines ++ line ∷ [];
  few = few;
  all = length-append b.lines (line ∷ []) ∙ ap (λ (n : ℕ). n + 1) b.all;
  short = λ l h. elim (Has-append b.lines (line ∷ []) l h) [
    | inl old ↦ b.short l old
    | inr (inl e) ↦ subst (λ (x : List ℕ). length x ≤ 4096) e short
    | inr (inr none) ↦ absurd none
  ];
  text_is = is ∙ ap (λ (l : List ℕ). l ++ 10 ∷ []) (is_line ∙ ap (λ (l : List ℕ). l ++ line) b.text_is) ∙ sym (joined_on b.lines line);
}

-- ITS LENGTH
joined_length : (lines : List (List ℕ)) → ((line : List ℕ) → Has lines line → length line ≤ 4096) → length (joined lines) ≤ length lines * 4097
joined_length [] short = omega arith
joined_length (line ∷ lines) short =
    let own = length-append line (10 ∷ []) in
    let all = length-append (line ++ 10 ∷ []) (joined lines) in
    omega (arith, own, all, short line (inl refl), joined_length lines (λ x g. short x (inr g)))

pub block_size : (count : ℕ) (text : List ℕ) → IsBlock count text → length text ≤ 67125248
block_size count text b = omega (arith, b.few, b.all, ap length b.text_is, joined_length b.lines b.short)

pub block_length : (count : ℕ) (text : List ℕ) → IsBlock count text → length text < 4294967295
block_length count text b = omega (arith, block_size count text b)
