-- The commands of its script that a run begins.
use Rattle.std.proofs.Common.{◌≡◌, ◌⊎◌, inl, inr, ⊎_elim, ℕ, ◌+◌, ◌≤◌, false, List, [], ◌∷◌, ◌++◌, length, Option, Some, None, refl, sym, ◌∙◌, ap, subst, arith, append_assoc}
use Rattle.std.specs.Io.KnownBytes.{prepend_known, IsAtEnd}
use Rattle.std.proofs.lemmas.List.{append-nil, length-map}
use Rattle.std.proofs.lemmas.Option.{same_Some}
use Rattle.lab_io.specs.Feeds.{NoFeed}
use Rattle.lab_io.specs.Lines.{lines_from, script_lines}
use Rattle.lab_io.specs.Passed.{Stand, Passed}
use Rattle.lab_io.proofs.Passing.{passed_none, passed_more}
use Rattle.lab_io.proofs.LineLaws.{lines-none}
use Rattle.script_text.specs.declared.command.Command.{Command}
use Rattle.script_text.specs.declared.next.Next.TheVariants as nexts
use Rattle.script_text.specs.Commands.{Lines, Found, next_of, Ending, AtEnd, BadLine, ending, AreCommands, IsScript}
use Rattle.script_text.specs.Taking.{known, Reads, IsBad, IsUnfinished, IsWithin, NoFurther}
use Rattle.script_text.proofs.Taken.{told_lines, known_behind, next_within, no_line, read_within}
use Rattle.lab_top.specs.declared.status.Status.TheVariants as statuses
use Rattle.lab_top.specs.Ran.{AreFirst, AreFirstTo, BegunCommands, IsReadTo, IsTakenTo}

-- where it stands before these bytes
abbrev pub at_start : List ℕ → Stand
at_start bytes = record { rest = Some bytes; ended = false; taken = 0; lines = 0 }

-- BYTES THAT ARE KNOWN
some_parts : (raw : List ℕ) (o : Option (List ℕ)) (bytes : List ℕ) → Some bytes ≡ prepend_known raw o → (rest : List ℕ) × (o ≡ Some rest) × (bytes ≡ raw ++ rest)
some_parts raw None bytes e = absurd cc
some_parts raw (Some rest) bytes e = (rest, refl, same_Some _ _ e)

-- THE COMMANDS OF LINES THAT WERE PASSED

-- whatever follows the lines that were passed, these are the commands before it
pub record Covers (start now : Stand) (commands : List Command) : Type 0 where
  pub texts : List (List ℕ)
  pub passed : Passed start now texts
  pub are : (more : Lines) (others : List Command) (end : Ending) → AreCommands now.lines more others end → AreCommands start.lines (known texts ++ more) (commands ++ others) end
  pub first_to : (line : ℕ) (more : Lines) (others : List Command) → AreFirstTo line now.lines more others → AreFirstTo line start.lines (known texts ++ more) (commands ++ others)

-- a reader that has read nothing
pub covers_none : (bytes : List ℕ) (now : Stand) → now.rest ≡ Some bytes → now.ended ≡ false → now.taken ≡ 0 → now.lines ≡ 0 → Covers (at_start bytes) now []
covers_none bytes now rest ended taken lines = record {
  texts = [];
  passed = passed_none (at_start bytes) now (inl ended) (λ h. refl) rest taken lines;
  are = λ more others end are. subst (λ (n : ℕ). AreCommands n more others end) lines are;
  first_to = λ line more others are. subst (λ (n : ℕ). AreFirstTo line n more others) lines are;
}

pub covers_more : (start now new : Stand) (commands : List Command) (c : Command) → Covers start now commands → Reads now (nexts.Command c) new → Covers start new (commands ++ c ∷ [])
covers_more start now new commands c cov read = record {
  texts = cov.texts ++ read.0;
  passed = passed_more start now new cov.texts read.0 cov.passed read.1;
  are = λ more others end are.
      subst (λ (ls : Lines). AreCommands start.lines ls ((commands ++ c ∷ []) ++ others) end) (sym (known_behind cov.texts read.0 more))
      (subst (λ (cs : List Command). AreCommands start.lines (known cov.texts ++ (known read.0 ++ more)) cs end) (sym (append_assoc commands (c ∷ []) others))
      (cov.are (known read.0 ++ more) (c ∷ others) end (new.lines, more, read.2 more, are)));
  first_to = λ line more others are.
      subst (λ (ls : Lines). AreFirstTo line start.lines ls ((commands ++ c ∷ []) ++ others)) (sym (known_behind cov.texts read.0 more))
      (subst (λ (cs : List Command). AreFirstTo line start.lines (known cov.texts ++ (known read.0 ++ more)) cs) (sym (append_assoc commands (c ∷ []) others))
      (cov.first_to line (known read.0 ++ more) (c ∷ others) (new.lines, more, read.2 more, are)));
}

pub are_first : (line number : ℕ) (lines : Lines) (commands : List Command) → AreFirstTo line number lines commands → AreFirst number lines commands
are_first line number lines [] are = tt
are_first line number lines (c ∷ commands) are = (are.0, are.1, are.2, are_first line are.0 are.1 commands are.3)

-- LINES THAT WERE TAKEN FROM THE START: what lies after them, and how many they are
module _ (bytes : List ℕ) (mid : Stand) (texts : List (List ℕ)) (p : Passed (at_start bytes) mid texts) where
  parted : (ahead : List ℕ) (left : Option (List ℕ)) → mid.rest ≡ prepend_known ahead left → (rest : List ℕ) × (bytes ≡ p.raw ++ ahead ++ rest) × (left ≡ Some rest)
  parted ahead left is =
      let a = some_parts p.raw mid.rest bytes p.front in
      let b = some_parts ahead left a.0 (sym a.1 ∙ is) in
      (b.0, a.2 ∙ ap (λ (l : List ℕ). p.raw ++ l) b.2 ∙ sym (append_assoc p.raw ahead b.0), b.1)

  its_lines : script_lines p.raw ≡ known texts ++ []
  its_lines = ap (lines_from 0) (sym (append-nil p.raw)) ∙ p.lines [] (inr refl) ∙ ap (λ (l : Lines). known texts ++ l) (lines-none mid.taken)

  its_size : mid.lines ≡ length (script_lines p.raw)
  its_size =
      let none_before : 0 + length texts ≡ length texts = omega arith in
      p.number ∙ none_before ∙ sym (ap length (its_lines ∙ append-nil (known texts)) ∙ length-map texts (λ (t : List ℕ). let o : Option (List ℕ) = Some t in o))

-- WHAT WAS BEGUN, at each end of a run of these bytes
module _ (bytes : List ℕ) (now : Stand) (commands : List Command) (cov : Covers (at_start bytes) now commands) where
  told : (rest : List ℕ) × (now.rest ≡ Some rest) × (script_lines bytes ≡ known cov.texts ++ lines_from now.taken rest)
  told = told_lines (at_start bytes) now cov.texts bytes cov.passed refl

  all_of : (end : Ending) → next_of now.lines (lines_from now.taken told.0) ≡ ending end → IsScript bytes commands end
  all_of end e =
      subst (λ (ls : Lines). AreCommands 0 ls commands end) (sym told.2)
      (subst (λ (cs : List Command). AreCommands 0 (known cov.texts ++ lines_from now.taken told.0) cs end) (append-nil commands)
      (cov.are (lines_from now.taken told.0) [] end e))

  first_to : (line : ℕ) → IsWithin line (next_of now.lines (lines_from now.taken told.0)) → AreFirstTo line 0 (script_lines bytes) commands
  first_to line within =
      subst (λ (ls : Lines). AreFirstTo line 0 ls commands) (sym told.2)
      (subst (λ (cs : List Command). AreFirstTo line 0 (known cov.texts ++ lines_from now.taken told.0) cs) (append-nil commands)
      (cov.first_to line (lines_from now.taken told.0) [] within))

  pub first_begun : AreFirst 0 (script_lines bytes) commands
  first_begun = are_first 0 0 (script_lines bytes) commands (first_to 0 (next_within 0 now.lines (lines_from now.taken told.0) (omega arith)))

  pub read_to : (ahead : List ℕ) (left : Option (List ℕ)) → now.rest ≡ prepend_known ahead left → length ahead ≤ 8193 → IsReadTo bytes left commands
  read_to ahead left is few =
      let p = cov.passed in
      let b = parted bytes now cov.texts p ahead left is in
      let all : IsScript p.raw commands AtEnd =
      subst (λ (ls : Lines). AreCommands 0 ls commands AtEnd) (sym (its_lines bytes now cov.texts p))
      (subst (λ (cs : List Command). AreCommands 0 (known cov.texts ++ []) cs AtEnd) (append-nil commands) (cov.are [] [] AtEnd refl)) in
      (p.raw, ahead, b.0, b.1, b.2, few, all)

  module _ (new : Stand) (s : NoFurther next_of now new) where
    next_is : IsWithin s.mid.lines (next_of now.lines (lines_from now.taken told.0))
    next_is =
        let behind = told_lines now s.mid s.texts told.0 s.passed told.1 in
        subst (λ (ls : Lines). IsWithin s.mid.lines (next_of now.lines ls)) (sym behind.2) (s.within (lines_from s.mid.taken behind.0))

    module _ (ahead : List ℕ) (left : Option (List ℕ)) (is : new.rest ≡ prepend_known ahead left) (few : length ahead ≤ 8193) where
      taken_to : (line : ℕ) → s.mid.lines ≤ line → IsTakenTo bytes left line
      taken_to line within =
          let texts = cov.texts ++ s.texts in
          let p = passed_more (at_start bytes) now s.mid cov.texts s.texts cov.passed s.passed in
          let b = parted bytes s.mid texts p ahead left (sym s.same ∙ is) in
          (p.raw, ahead, b.0, b.1, b.2, few, subst (λ (n : ℕ). n ≤ line) (its_size bytes s.mid texts p) within)

      pub bad_begun : (line : ℕ) → IsBad now line → BegunCommands bytes left commands (statuses.BadScript line)
      bad_begun line bad = (all_of (BadLine line) (bad told.0 told.1), taken_to line (subst (λ (f : Found). IsWithin s.mid.lines f) (bad told.0 told.1) next_is))

      pub wanting_begun : BegunCommands bytes left commands statuses.Memory
      wanting_begun = (first_begun, (s.mid.lines, taken_to s.mid.lines (omega arith), first_to s.mid.lines next_is))

  at_end : (rest : List ℕ) → IsAtEnd (Some rest) → rest ≡ []
  at_end rest h = h

  pub all_begun : (new : Stand) → Reads now nexts.End new → (pending : List ℕ) (left : Option (List ℕ)) → new.rest ≡ prepend_known pending left → BegunCommands bytes left commands statuses.Done
  all_begun new read pending left is =
      let behind = told_lines now new read.0 told.0 read.1 told.1 in
      let none : behind.0 ≡ [] = at_end behind.0 (subst (λ (o : Option (List ℕ)). IsAtEnd o) behind.1 read.2) in
      let lines : lines_from now.taken told.0 ≡ known read.0 = behind.2 ∙ ap (λ (r : List ℕ). known read.0 ++ lines_from new.taken r) none ∙ ap (λ (l : Lines). known read.0 ++ l) (lines-none new.taken) ∙ append-nil (known read.0) in
      let p = some_parts pending left behind.0 (sym behind.1 ∙ is) in
      (all_of AtEnd (ap (next_of now.lines) lines ∙ read.3), p.1 ∙ ap (λ (r : List ℕ). let o : Option (List ℕ) = Some r in o) (no_part pending p.0 (sym p.2 ∙ none)))
    where
      no_part : (xs rest : List ℕ) → xs ++ rest ≡ [] → rest ≡ []
      no_part [] rest e = e
      no_part (x ∷ xs) rest e = absurd (cc e)

  pub cut_begun : (new : Stand) → IsUnfinished now new → (pending : List ℕ) (left : Option (List ℕ)) → new.rest ≡ prepend_known pending left → length pending ≤ 8193 → NoFeed pending → BegunCommands bytes left commands statuses.ReadFault
  cut_begun new u pending left is few none =
      let texts = cov.texts ++ u.texts in
      let p = passed_more (at_start bytes) now u.mid cov.texts u.texts cov.passed u.passed in
      let b = parted bytes u.mid texts p pending left (sym u.same ∙ is) in
      let all : (end : Ending) → next_of now.lines (known u.texts) ≡ ending end → IsScript p.raw commands end = λ end e.
      subst (λ (ls : Lines). AreCommands 0 ls commands end) (sym (its_lines bytes u.mid texts p ∙ known_behind cov.texts u.texts []))
      (subst (λ (cs : List Command). AreCommands 0 (known cov.texts ++ (known u.texts ++ [])) cs end) (append-nil commands)
      (cov.are (known u.texts ++ []) [] end (ap (next_of now.lines) (append-nil (known u.texts)) ∙ e))) in (
        p.raw,
        pending,
        b.0,
        b.1,
        b.2,
        few,
        none,
        p.whole u.more,
        ⊎_elim (λ e. inl (all AtEnd e)) (λ e. inr (subst (λ (n : ℕ). IsScript p.raw commands (BadLine (n + 1))) (its_size bytes u.mid texts p) (all (BadLine (u.mid.lines + 1)) e))) u.unfinished,
      )

-- AFTER A COMMAND THAT WAS READ, where nothing further is read
module _ (bytes : List ℕ) (now new : Stand) (commands made : List Command) (command : Command) (cov : Covers (at_start bytes) now commands) (read : Reads now (nexts.Command command) new) (ahead : List ℕ) (left : Option (List ℕ))
    (is : new.rest ≡ prepend_known ahead left) (few : length ahead ≤ 8193) where
  one_more : Covers (at_start bytes) new (commands ++ command ∷ [])
  one_more = covers_more (at_start bytes) now new commands command cov read

  -- it was begun
  pub one_read : made ≡ commands ++ command ∷ [] → AreFirst 0 (script_lines bytes) made × IsReadTo bytes left made
  one_read one =
      subst (λ cs. AreFirst 0 (script_lines bytes) cs × IsReadTo bytes left cs) (sym one) (first_begun bytes new (commands ++ command ∷ []) one_more, read_to bytes new (commands ++ command ∷ []) one_more ahead left is few)

  -- memory was wanting before it was begun, or then
  pub one_wanting : (made ≡ commands) ⊎ (made ≡ commands ++ command ∷ []) → BegunCommands bytes left made statuses.Memory
  one_wanting (inl none) =
      subst (λ cs. BegunCommands bytes left cs statuses.Memory) (sym none) (wanting_begun bytes now commands cov new (read_within now new command read.0 read.1 read.2) ahead left is few)
  one_wanting (inr one) =
      let here = no_line next_of new new read.1.ends refl (λ more. next_within new.lines new.lines more (omega arith)) in
      subst (λ cs. BegunCommands bytes left cs statuses.Memory) (sym one) (wanting_begun bytes new (commands ++ command ∷ []) one_more new here ahead left is few)
