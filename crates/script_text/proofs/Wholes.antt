-- Commands that were read whole, and commands that were not.
use Rattle.std.proofs.Common.{◌≡◌, ◌≤◌, inr, ℕ, zero, suc, ◌+◌, Option, Some, List, [], ◌∷◌, ◌++◌, length, arith, refl, sym, subst, ap, ◌∙◌}
use Rattle.std.proofs.lemmas.List.{append-nil, map-append}
use Rattle.std.specs.Io.KnownBytes.{IsAtEnd}
use Rattle.lab_io.specs.Lines.{lines_from}
use Rattle.lab_io.specs.Passed.{Stand, IsSettled}
use Rattle.lab_io.proofs.Passing.{passed_none, passed_more}
use Rattle.script_text.specs.Commands.{Lines, Found, block, behind, Got, Bad, command_at, next_of}
use Rattle.script_text.specs.declared.command.Command.{Command}
use Rattle.script_text.specs.declared.heads.Head.{Head}
use Rattle.script_text.specs.declared.heads.Head.TheVariants as heads
use Rattle.script_text.specs.declared.heads.OneBlock.{OneBlock}
use Rattle.script_text.specs.declared.heads.TwoBlocks.{TwoBlocks}
use Rattle.script_text.specs.Heads.{completed, both_completed}
use Rattle.script_text.specs.declared.next.Next.TheVariants as nexts
use Rattle.script_text.specs.Taking.{known, Skipped, Begun, Blocked, IsShort, IsCut, Completes, IsBadAt, IsHalf, IsBad, Reads, IsUnfinished, IsWithin, NoFurther, NoLonger}
use Rattle.script_text.proofs.Taken.{told_lines, known_behind, after_within}
use Rattle.script_text.proofs.Blocks.{block_whole, block_short}

-- AFTER A BLOCK, whatever is looked for there
module _ (onwards : List ℕ → ℕ → Lines → Found) (a : Stand) (k : ℕ) where
  block_after : (b : Stand) (text : List ℕ) (s : Blocked a b k text) (more : Lines) → behind (block k [] a.lines (known s.texts ++ more)) onwards ≡ onwards text b.lines more
  block_after b text s more =
      ap (λ (n : ℕ). behind (block n [] a.lines (known s.texts ++ more)) onwards) (sym s.all)
      ∙ ap (λ w. behind w onwards) (block_whole s.texts [] a.lines more)
      ∙ (λ i. onwards (sym s.text_is i) (sym s.passed.number i) more)

  short_after : (line : ℕ) → IsShort a k line → (bytes : List ℕ) → a.rest ≡ Some bytes → behind (block k [] a.lines (lines_from a.taken bytes)) onwards ≡ Bad line
  short_after line s bytes is =
      let told = told_lines a s.mid s.some.texts bytes s.some.passed is in
      ap (λ (ls : Lines). behind (block k [] a.lines ls) onwards) told.2
      ∙ ap (λ w. behind w onwards) (block_short k s.some.texts [] a.lines (lines_from s.mid.taken told.0) s.some.few (s.none told.0 told.1))
      ∙ ap (λ (n : ℕ). Bad (n + 1)) (sym s.some.passed.number)
      ∙ ap (λ (n : ℕ). Bad n) (sym s.line_is)

  cut_after : (new : Stand) (s : IsCut a new k) → behind (block k [] a.lines (known s.some.texts)) onwards ≡ Bad (s.mid.lines + 1)
  cut_after new s =
      ap (λ (ls : Lines). behind (block k [] a.lines ls) onwards) (sym (append-nil (known s.some.texts)))
      ∙ ap (λ w. behind w onwards) (block_short k s.some.texts [] a.lines [] s.some.few tt)
      ∙ ap (λ (n : ℕ). Bad (n + 1)) (sym s.some.passed.number)

-- a part of a block, and whatever follows
module _ (line : ℕ) (onwards : List ℕ → ℕ → Lines → Found) (by : (text : List ℕ) (number : ℕ) (rest : Lines) → line ≤ number → IsWithin line (onwards text number rest)) where
  part_within : (k : ℕ) (texts : List (List ℕ)) (text : List ℕ) (number : ℕ) (more : Lines) → length texts ≤ k → line ≤ number + length texts → IsWithin line (behind (block k text number (known texts ++ more)) onwards)
  part_within k [] text number more few at = after_within line onwards by k text number more (omega (arith, at))
  part_within zero (t ∷ texts) text number more few at = absurd (omega (arith, few))
  part_within (suc k) (t ∷ texts) text number more few at = part_within k texts (text ++ t ++ 10 ∷ []) (number + 1) more (omega (arith, few)) (omega (arith, at))

  longer_within : (a new : Stand) (k : ℕ) (s : NoLonger a new k) → s.mid.lines ≡ line → (more : Lines) → IsWithin line (behind (block k [] a.lines (known s.texts ++ more)) onwards)
  longer_within a new k s is more = part_within k s.texts [] a.lines more s.few (omega (arith, s.passed.number, is))

-- A COMMAND WITH ONE BLOCK
module _ (what : OneBlock) (k : ℕ) where
  abbrev whole : List ℕ → ℕ → Lines → Found
  whole text = Got (completed what k text)

  pub block_completes : (a b : Stand) (text : List ℕ) → Blocked a b k text → Completes a b (heads.Block what k) (completed what k text)
  block_completes a b text s = record { texts = s.texts; passed = s.passed; gives = block_after whole a k b text s }

  pub short_bad : (a : Stand) (line : ℕ) → IsShort a k line → IsBadAt a (heads.Block what k) line
  short_bad a line s = short_after whole a k line s

  pub cut_half : (a new : Stand) → IsCut a new k → IsHalf a new (heads.Block what k)
  cut_half a new s = record { mid = s.mid; texts = s.some.texts; passed = s.some.passed; same = s.same; more = s.more; half = cut_after whole a k new s }

  pub block_no_further : (a new : Stand) → NoLonger a new k → NoFurther (command_at (heads.Block what k)) a new
  block_no_further a new s = record { mid = s.mid; texts = s.texts; passed = s.passed; same = s.same; within = longer_within s.mid.lines whole (λ text n rest h. h) a new k s refl }

-- A COMMAND WITH TWO BLOCKS
module _ (what : TwoBlocks) (k m : ℕ) where
  abbrev both : List ℕ → List ℕ → ℕ → Lines → Found
  both text other = Got (both_completed what k text m other)

  abbrev second : List ℕ → ℕ → Lines → Found
  second text number lines = behind (block m [] number lines) (both text)

  pub blocks_complete : (a b c : Stand) (text other : List ℕ) → Blocked a b k text → Blocked b c m other → Completes a c (heads.Blocks what k m) (both_completed what k text m other)
  blocks_complete a b c text other s t = record {
    texts = s.texts ++ t.texts;
    passed = passed_more a b c s.texts t.texts s.passed t.passed;
    gives = λ more.
        ap (λ (ls : Lines). behind (block k [] a.lines ls) second) (known_behind s.texts t.texts more)
        ∙ block_after second a k b text s (known t.texts ++ more)
        ∙ block_after (both text) b m c other t more;
  }

  pub first_short : (a : Stand) (line : ℕ) → IsShort a k line → IsBadAt a (heads.Blocks what k m) line
  first_short a line s = short_after second a k line s

  pub second_short : (a b : Stand) (text : List ℕ) (line : ℕ) → Blocked a b k text → IsShort b m line → IsBadAt a (heads.Blocks what k m) line
  second_short a b text line s t bytes is =
      let told = told_lines a b s.texts bytes s.passed is in
      ap (λ (ls : Lines). behind (block k [] a.lines ls) second) told.2
      ∙ block_after second a k b text s (lines_from b.taken told.0)
      ∙ short_after (both text) b m line t told.0 told.1

  pub first_cut : (a new : Stand) → IsCut a new k → IsHalf a new (heads.Blocks what k m)
  first_cut a new s = record { mid = s.mid; texts = s.some.texts; passed = s.some.passed; same = s.same; more = s.more; half = cut_after second a k new s }

  pub second_cut : (a b new : Stand) (text : List ℕ) → Blocked a b k text → IsCut b new m → IsHalf a new (heads.Blocks what k m)
  second_cut a b new text s t = record {
    mid = t.mid;
    texts = s.texts ++ t.some.texts;
    passed = passed_more a b t.mid s.texts t.some.texts s.passed t.some.passed;
    same = t.same;
    more = t.more;
    half =
        ap (λ (ls : Lines). behind (block k [] a.lines ls) second) (map-append (λ (t : List ℕ). let o : Option (List ℕ) = Some t in o) s.texts t.some.texts)
        ∙ block_after second a k b text s (known t.some.texts)
        ∙ cut_after (both text) b m new t;
  }

  both_within : (line : ℕ) (text other : List ℕ) (number : ℕ) (rest : Lines) → line ≤ number → IsWithin line (both text other number rest)
  both_within line text other number rest h = h

  pub first_no_further : (a new : Stand) → NoLonger a new k → NoFurther (command_at (heads.Blocks what k m)) a new
  first_no_further a new s = record {
    mid = s.mid;
    texts = s.texts;
    passed = s.passed;
    same = s.same;
    within = longer_within s.mid.lines second (λ text n rest h. after_within s.mid.lines (both text) (both_within s.mid.lines text) m [] n rest h) a new k s refl;
  }

  pub second_no_further : (a b new : Stand) (text : List ℕ) → Blocked a b k text → NoLonger b new m → NoFurther (command_at (heads.Blocks what k m)) a new
  second_no_further a b new text s t = record {
    mid = t.mid;
    texts = s.texts ++ t.texts;
    passed = passed_more a b t.mid s.texts t.texts s.passed t.passed;
    same = t.same;
    within = λ more. subst (λ (f : Found). IsWithin t.mid.lines f)
        (sym (ap (λ (ls : Lines). behind (block k [] a.lines ls) second) (known_behind s.texts t.texts more) ∙ block_after second a k b text s (known t.texts ++ more)))
        (longer_within t.mid.lines (both text) (both_within t.mid.lines text) b new m t refl more);
  }

-- a command without a block
pub whole_completes : (a : Stand) (command : Command) → IsSettled a → Completes a a (heads.Whole command) command
whole_completes a command settled = record { texts = []; passed = passed_none a a settled (λ h. h) refl refl refl; gives = λ more. refl }

-- AFTER SKIPPED LINES AND A HEAD
pub command_next : (a b c : Stand) (head : Head) (command : Command) → Begun a b head → Completes b c head command → Reads a (nexts.Command command) c
command_next a b c head command begun s = (
  begun.texts ++ s.texts,
  passed_more a b c begun.texts s.texts begun.passed s.passed,
  λ more. ap (next_of a.lines) (known_behind begun.texts s.texts more) ∙ begun.begins (known s.texts ++ more) ∙ s.gives more,
)

pub end_next : (a b : Stand) → Skipped a b → IsAtEnd b.rest → Reads a nexts.End b
end_next a b s end = (s.texts, s.passed, end, ap (next_of a.lines) (sym (append-nil (known s.texts))) ∙ s.onwards [])

pub begun_bad : (a b : Stand) (head : Head) (line : ℕ) → Begun a b head → IsBadAt b head line → IsBad a line
begun_bad a b head line begun bad bytes is =
    let told = told_lines a b begun.texts bytes begun.passed is in
    ap (next_of a.lines) told.2 ∙ begun.begins (lines_from b.taken told.0) ∙ bad told.0 told.1

pub begun_no_further : (a b new : Stand) (head : Head) → Begun a b head → NoFurther (command_at head) b new → NoFurther next_of a new
begun_no_further a b new head begun s = record {
  mid = s.mid;
  texts = begun.texts ++ s.texts;
  passed = passed_more a b s.mid begun.texts s.texts begun.passed s.passed;
  same = s.same;
  within = λ more. subst (λ (f : Found). IsWithin s.mid.lines f) (sym (ap (next_of a.lines) (known_behind begun.texts s.texts more) ∙ begun.begins (known s.texts ++ more))) (s.within more);
}

pub half_unfinished : (a b new : Stand) (head : Head) → Begun a b head → IsHalf b new head → IsUnfinished a new
half_unfinished a b new head begun h = record {
  mid = h.mid;
  texts = begun.texts ++ h.texts;
  passed = passed_more a b h.mid begun.texts h.texts begun.passed h.passed;
  same = h.same;
  more = h.more;
  unfinished = inr (
      ap (next_of a.lines) (sym (append-nil (known (begun.texts ++ h.texts))) ∙ known_behind begun.texts h.texts [])
      ∙ begun.begins (known h.texts ++ [])
      ∙ ap (command_at head b.lines) (append-nil (known h.texts))
      ∙ h.half
      );
}
