-- The lines that are left after a reader's call.
use Rattle.std.proofs.Common.{◌≡◌, inl, inr, ℕ, ◌^◌, ◌≤◌, Bool, zero, suc, true, false, Some, None, List, [], ◌∷◌, ◌++◌, ◌+◌, append_assoc, Option, Result, Ok, Err, IfSome, OnErr, arith, refl, sym, subst, ap, ◌∙◌}
use Rattle.std.proofs.lemmas.Bool.{true≢false}
use Rattle.std.proofs.lemmas.List.{append-nil, map-append}
use Rattle.std.specs.Io.KnownBytes.{prepend_known, IsAtEnd}
use Rattle.std.proofs.Math.Nat.{add-zero}
use Rattle.std.proofs.lemmas.Option.{same_Some}
use Rattle.lab_io.specs.Lines.{lines_from}
use Rattle.lab_io.specs.Passed.{Stand, IsSettled, MayFollow, Passed}
use Rattle.lab_io.specs.Taken.{IsTooLong}
use Rattle.lab_io.proofs.Passing.{passed_none, passed_more}
use Rattle.lab_io.proofs.LongLines.{first_is_long}
use Rattle.script_text.specs.Heads.{completed, both_completed, said_of}
use Rattle.script_text.specs.Commands.{Lines, Found, block, behind, Got, Bad, command_at, found_by, next_of}
use Rattle.script_text.specs.declared.heads.Head.{Head}
use Rattle.script_text.specs.declared.heads.Head.TheVariants as heads
use Rattle.script_text.specs.declared.command.Command.{Command}
use Rattle.script_text.specs.declared.heads.Said.{Said}
use Rattle.script_text.specs.declared.heads.Said.TheVariants as said
use Rattle.script_text.specs.Taking.{known, StartsLong, HasLong, Skipped, Begun, IsBad, IsUnfinished, IsWithin, NoFurther}

pub not_true : (b : Bool) → (b ≡ true → ⊥) → b ≡ false
not_true true h = absurd (h refl)
not_true false h = refl

-- a reader that answers a line has met no fault
pub ok_no_fault : {T E : Type 0} (fault : Option E) (result : Result T E) (value : T) → result ≡ Ok value → IfSome fault (λ f. result ≡ Err f) → fault ≡ None
ok_no_fault None result value ok again = refl
ok_no_fault (Some f) result value ok again = absurd (cc (ok, again))

-- what holds at each error
pub on_error : {T E P : Type 0} (result : Result T E) → P → OnErr result P
on_error (Ok value) holds = tt
on_error (Err error) holds = holds

-- a source that has ended gives no line
pub ended_none : (old new : Stand) → IsSettled old → old.ended ≡ true → new ≡ old → Passed old new [] × IsAtEnd new.rest
ended_none old new settled ended same = subst (λ (s : Stand). Passed old s [] × IsAtEnd s.rest) (sym same) (passed_none old old settled (λ h. h) refl refl refl, at_end settled)
  where
    at_end : IsSettled old → IsAtEnd old.rest
    at_end (inl h) = absurd (true≢false (sym ended ∙ h))
    at_end (inr h) = h

-- one that has nothing left gives none
pub end_none : (old new : Stand) → new.rest ≡ old.rest → IsAtEnd new.rest → new.ended ≡ true → new.taken ≡ old.taken → new.lines ≡ old.lines → Passed old new [] × IsAtEnd new.rest
end_none old new rest end ended taken lines = (passed_none old new (inr end) (λ h. absurd (true≢false (sym ended ∙ h))) rest taken lines, end)

-- one whose line is too long gives none
pub long_none : (stand : Stand) → stand.taken ≤ 2 ^ 32 → IsTooLong stand.taken stand.rest → HasLong stand
long_none stand within long bytes is =
    let first = first_is_long stand.taken bytes within (subst (λ (r : Option (List ℕ)). IsTooLong stand.taken r) is long) in
    subst (λ (l : Lines). StartsLong l) (sym first.1) tt

-- WHAT IS FOUND after a line is not before it
module _ (line : ℕ) where
  pub after_within : (onwards : List ℕ → ℕ → Lines → Found) → ((text : List ℕ) (number : ℕ) (rest : Lines) → line ≤ number → IsWithin line (onwards text number rest)) → (k : ℕ) (text : List ℕ) (number : ℕ) (lines : Lines) → line ≤ number
      → IsWithin line (behind (block k text number lines) onwards)
  after_within onwards by zero text number lines at = by text number lines at
  after_within onwards by (suc k) text number [] at = omega (arith, at)
  after_within onwards by (suc k) text number (None ∷ lines) at = omega (arith, at)
  after_within onwards by (suc k) text number (Some l ∷ lines) at = after_within onwards by k (text ++ l ++ 10 ∷ []) (number + 1) lines (omega (arith, at))

  pub command_within : (head : Head) (number : ℕ) (lines : Lines) → line ≤ number → IsWithin line (command_at head number lines)
  command_within (heads.Whole command) number lines at = at
  command_within (heads.Block what k) number lines at = after_within (λ text. Got (completed what k text)) (λ text n rest h. h) k [] number lines at
  command_within (heads.Blocks what k m) number lines at =
      after_within (λ text after rest. behind (block m [] after rest) (λ other. Got (both_completed what k text m other)))
      (λ text n rest h. after_within (λ other. Got (both_completed what k text m other)) (λ other o r g. g) m [] n rest h) k [] number lines at

  pub found_within : (said : Said) (number : ℕ) (lines : Lines) (onwards : Found) → line ≤ number → IsWithin line onwards → IsWithin line (found_by said number lines onwards)
  found_within said.Skipped number lines onwards at on = on
  found_within said.Unknown number lines onwards at on = at
  found_within (said.Begins head) number lines onwards at on = command_within head number lines at

  pub next_within : (number : ℕ) (lines : Lines) → line ≤ number → IsWithin line (next_of number lines)
  next_within number [] at = tt
  next_within number (None ∷ lines) at = omega (arith, at)
  next_within number (Some l ∷ lines) at = found_within (said_of l) (number + 1) lines (next_of (number + 1) lines) (omega (arith, at)) (next_within (number + 1) lines (omega (arith, at)))

-- NO FURTHER than what is found: no line was passed there
pub no_line : (find : ℕ → Lines → Found) (a new : Stand) → IsSettled a → new.rest ≡ a.rest → ((more : Lines) → IsWithin a.lines (find a.lines more)) → NoFurther find a new
no_line find a new settled same within = record { mid = a; texts = []; passed = passed_none a a settled (λ h. h) refl refl refl; same = same; within = within }

-- no further than the command that was read
pub read_within : (a b : Stand) (command : Command) (texts : List (List ℕ)) → Passed a b texts → ((more : Lines) → next_of a.lines (known texts ++ more) ≡ Got command b.lines more) → NoFurther next_of a b
read_within a b command texts passed is = record { mid = b; texts = texts; passed = passed; same = refl; within = λ more. subst (λ (f : Found). IsWithin b.lines f) (sym (is more)) (omega arith) }

pub by_cases : {X : Type 0} (b : Bool) → (b ≡ true → X) → (b ≡ false → X) → X
by_cases true f g = f refl
by_cases false f g = g refl

-- what is known of the lines after lines that were passed
pub told_lines : (a b : Stand) (texts : List (List ℕ)) (bytes : List ℕ) → Passed a b texts → a.rest ≡ Some bytes → (rest : List ℕ) × (b.rest ≡ Some rest) × (lines_from a.taken bytes ≡ known texts ++ lines_from b.taken rest)
told_lines a b texts bytes p is = by b.rest refl
  where
    by : (r : Option (List ℕ)) → b.rest ≡ r → (rest : List ℕ) × (b.rest ≡ Some rest) × (lines_from a.taken bytes ≡ known texts ++ lines_from b.taken rest)
    by None e = absurd (cc (is, p.front ∙ ap (prepend_known p.raw) e))
    by (Some rest) e =
        let whole : bytes ≡ p.raw ++ rest = same_Some _ _ (sym is ∙ p.front ∙ ap (prepend_known p.raw) e) in
        (rest, e, ap (lines_from a.taken) whole ∙ p.lines rest (follows e p.ends))
      where
        follows : b.rest ≡ Some rest → IsSettled b → MayFollow b rest
        follows e (inl more) = inl more
        follows e (inr end) = inr (subst (λ (o : Option (List ℕ)). IsAtEnd o) e end)

pub known_behind : (xs ys : List (List ℕ)) (more : Lines) → known (xs ++ ys) ++ more ≡ known xs ++ (known ys ++ more)
known_behind xs ys more = ap (λ (l : Lines). l ++ more) (map-append (λ (t : List ℕ). let o : Option (List ℕ) = Some t in o) xs ys) ∙ append_assoc (known xs) (known ys) more

-- NOTHING IS SKIPPED YET
pub none_skipped : (a : Stand) → IsSettled a → Skipped a a
none_skipped a settled = record { texts = []; passed = passed_none a a settled (λ h. h) refl refl refl; onwards = λ more. refl }

-- ONE LINE MORE, by what it says
module _ (a b c : Stand) (text : List ℕ) (s : Skipped a b) (p : Passed b c (text ∷ [])) where
  abbrev texts : List (List ℕ)
  texts = s.texts ++ text ∷ []

  found : (said : Said) → said_of text ≡ said → (more : Lines) → next_of a.lines (known texts ++ more) ≡ found_by said c.lines more (next_of c.lines more)
  found said is more =
      ap (next_of a.lines) (known_behind s.texts (text ∷ []) more)
      ∙ s.onwards (Some text ∷ more)
      ∙ ap (λ (x : Said). found_by x (b.lines + 1) more (next_of (b.lines + 1) more)) is
      ∙ ap (λ (n : ℕ). found_by said n more (next_of n more)) (sym p.number)

  passed : Passed a c texts
  passed = passed_more a b c s.texts (text ∷ []) s.passed p

  pub skipped_on : said_of text ≡ said.Skipped → Skipped a c
  skipped_on is = record { texts = texts; passed = passed; onwards = λ more. found said.Skipped is more }

  pub begun_on : (head : Head) → said_of text ≡ said.Begins head → Begun a c head
  begun_on head is = record { texts = texts; passed = passed; begins = λ more. found (said.Begins head) is more }

  pub line_within : NoFurther next_of a c
  line_within = record {
    mid = c;
    texts = texts;
    passed = passed;
    same = refl;
    within = λ more. subst (λ (f : Found). IsWithin c.lines f) (sym (found (said_of text) refl more)) (found_within c.lines (said_of text) c.lines more (next_of c.lines more) (omega arith) (next_within c.lines c.lines more (omega arith)));
  }

  pub unknown_bad : said_of text ≡ said.Unknown → IsBad a c.lines
  unknown_bad is bytes known_bytes =
      let told = told_lines a c texts bytes passed known_bytes in
      ap (next_of a.lines) told.2 ∙ found said.Unknown is (lines_from c.taken told.0)

-- no line more
pub skipped_within : (a b new : Stand) → Skipped a b → new.rest ≡ b.rest → NoFurther next_of a new
skipped_within a b new s same = record {
  mid = b;
  texts = s.texts;
  passed = s.passed;
  same = same;
  within = λ more. subst (λ (f : Found). IsWithin b.lines f) (sym (s.onwards more)) (next_within b.lines b.lines more (omega arith));
}

-- it is too long, or the reading failed
pub long_bad : (a b : Stand) → Skipped a b → HasLong b → IsBad a (b.lines + 1)
long_bad a b s long bytes is =
    let told = told_lines a b s.texts bytes s.passed is in
    ap (next_of a.lines) told.2 ∙ s.onwards (lines_from b.taken told.0) ∙ first (lines_from b.taken told.0) (long told.0 told.1)
  where
    first : (lines : Lines) → StartsLong lines → next_of b.lines lines ≡ Bad (b.lines + 1)
    first [] h = absurd h
    first (None ∷ lines) h = refl
    first (Some line ∷ lines) h = absurd h

pub skipped_unfinished : (a b new : Stand) → Skipped a b → b.ended ≡ false → new.rest ≡ b.rest → IsUnfinished a new
skipped_unfinished a b new s more same = record {
  mid = b;
  texts = s.texts;
  passed = s.passed;
  same = same;
  more = more;
  unfinished = inl (ap (next_of a.lines) (sym (append-nil (known s.texts))) ∙ s.onwards []);
}

-- the end after skipped lines
pub ended_skipped : (a b c : Stand) → Skipped a b → Passed b c [] → Skipped a c
ended_skipped a b c s p = record {
  texts = s.texts ++ [];
  passed = passed_more a b c s.texts [] s.passed p;
  onwards = λ more. ap (λ (l : List (List ℕ)). next_of a.lines (known l ++ more)) (append-nil s.texts) ∙ s.onwards more ∙ ap (λ (n : ℕ). next_of n more) (sym (p.number ∙ add-zero b.lines));
}
