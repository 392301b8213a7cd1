-- The commands of first lines.
use Rattle.std.proofs.Common.{◌≡◌, ◌∙◌, ℕ, ◌+◌, ◌-◌, ◌*◌, ◌<◌, ◌≤◌, true, false, not, List, [], ◌∷◌, ◌++◌, length, codes, Some, None, refl, ap, arith, append_assoc}
use Rattle.std.specs.Prelude.{decimal, nat_le, if◌then◌else◌}
use Rattle.std.specs.Char.{is_ascii_digit}
use Rattle.std.specs.List.{list_all}
use Rattle.std.proofs.lemmas.Bool.{and_from}
use Rattle.std.proofs.lemmas.Bool.Decides.{nat_tests}
use Rattle.std.proofs.lemmas.Fmt.{decimal_nonempty, length-decimal-le}
use Rattle.lab_base.specs.Names.{is_name, is_name_byte}
use Rattle.lab_base.specs.Texts.{fields_of, is_blank, is_filled, is_skipped}
use Rattle.lab_base.proofs.Again.{field_again, last_field_again, number_again}
use Rattle.lab_base.proofs.Names.{digit_named}
use Rattle.lab_base.proofs.Members.{all_weaker}
use Rattle.script_text.specs.Commands.{Got, Lines, behind, block, found_by, next_of}
use Rattle.script_text.specs.Heads.{begins, counted, head_of, named, said_of, seed_of}
use Rattle.script_text.specs.declared.command.Command.TheVariants as commands
use Rattle.lab_gen.specs.Script.{create_line, swapin_line, swapout_line}
use Rattle.lab_gen.proofs.Printed.{digits_of}

-- the name of an experiment
abbrev pub name_of : ℕ → List ℕ
name_of k = codes "E" ++ decimal k

digit_filled : (b : ℕ) → is_ascii_digit b ≡ true → not (is_blank b) ≡ true
digit_filled b h = grind (arith, nat_tests)

name_is : (k : ℕ) → k < 1000000 → is_name (name_of k) ≡ true
name_is k lt =
    let size : length (decimal k) ≤ 6 = length-decimal-le 6 k (omega arith) (omega arith) (omega arith) in
    let some : nat_le 1 (length (name_of k)) ≡ true = grind (arith, nat_tests) in
    let few : nat_le (length (name_of k)) 32 ≡ true = grind (arith, nat_tests) in
    and_from _ _ some (and_from _ _ few (all_weaker is_ascii_digit is_name_byte digit_named (decimal k) (digits_of k lt)))

no_blank : (k : ℕ) → k < 1000000 → list_all (λ b. not (is_blank b)) (decimal k) ≡ true
no_blank k lt = all_weaker is_ascii_digit (λ b. not (is_blank b)) digit_filled (decimal k) (digits_of k lt)

filled : (bytes : List ℕ) → 0 < length bytes → is_filled bytes ≡ true
filled [] some = absurd (omega arith)
filled (b ∷ bytes) some = refl

number_fields : (k : ℕ) → k < 1000000 → fields_of (decimal k) ≡ decimal k ∷ []
number_fields k lt = last_field_again (decimal k) (filled (decimal k) (decimal_nonempty k (omega arith))) (no_blank k lt)

named_is : (k : ℕ) → k < 1000000 → named (name_of k) ≡ Some (name_of k)
named_is k lt = ap (λ b. if b then Some (name_of k) else None) (name_is k lt)

-- a word with a name and a number after it
two_fields : (word : List ℕ) (k m : ℕ) → is_filled word ≡ true → list_all (λ b. not (is_blank b)) word ≡ true → k < 1000000 → m < 1000000
    → fields_of (word ++ 32 ∷ (name_of k ++ 32 ∷ decimal m)) ≡ word ∷ name_of k ∷ decimal m ∷ []
two_fields word k m some plain first second =
    field_again word (name_of k ++ 32 ∷ decimal m) some plain
    ∙ ap (λ l. word ∷ l) (field_again (name_of k) (decimal m) refl (no_blank k first) ∙ ap (λ l. name_of k ∷ l) (number_fields m second))

one_field : (word : List ℕ) (k : ℕ) → is_filled word ≡ true → list_all (λ b. not (is_blank b)) word ≡ true → k < 1000000 → fields_of (word ++ 32 ∷ name_of k) ≡ word ∷ name_of k ∷ []
one_field word k some plain first = field_again word (name_of k) some plain ∙ ap (λ l. word ∷ l) (last_field_again (name_of k) refl (no_blank k first))

-- THE NEXT COMMAND, at each first line of a command of the script
module _ (number : ℕ) (rest : Lines) where
  by_fields : (line : List ℕ) (fields : List (List ℕ)) → fields_of line ≡ fields
      → next_of number (Some line ∷ rest) ≡ found_by (if is_skipped fields then said_of [] else begins (head_of fields)) (number + 1) rest (next_of (number + 1) rest)
  by_fields line fields is = ap (λ f. found_by (if is_skipped f then said_of [] else begins (head_of f)) (number + 1) rest (next_of (number + 1) rest)) is

  pub ptop_next : next_of number (Some (codes "ptop 328") ∷ rest) ≡ behind (block 328 [] (number + 1) rest) (λ text. Got (commands.Ptop 328 text))
  ptop_next = refl

  pub status_next : next_of number (Some (codes "status") ∷ rest) ≡ Got commands.Status (number + 1) rest
  status_next = refl

  pub create_next : (k n : ℕ) → k < 1000 → n < 1000 → next_of number (Some (create_line k n) ∷ rest) ≡ behind (block (2 * n - 1) [] (number + 1) rest) (λ text. Got (commands.CreateTop (name_of k) (2 * n - 1) text))
  create_next k n first second =
      let m = 2 * n - 1 in
      let line : create_line k n ≡ codes "create-top" ++ 32 ∷ (name_of k ++ 32 ∷ decimal m) = ap (λ t. codes "create-top E" ++ t) (append_assoc (decimal k) (32 ∷ []) (decimal m)) in
      let count : counted (decimal m) ≡ Some m = number_again 16384 m (omega arith) (omega arith) in
      by_fields (create_line k n) (codes "create-top" ∷ name_of k ∷ decimal m ∷ []) (ap fields_of line ∙ two_fields (codes "create-top") k m refl refl (omega arith) (omega arith))
      ∙ rw (named_is k (omega arith), count) refl

  pub swapin_next : (k : ℕ) → k < 1000 → next_of number (Some (swapin_line k) ∷ rest) ≡ Got (commands.Swapin false (name_of k) k) (number + 1) rest
  swapin_next k lt =
      let line : swapin_line k ≡ codes "swapin" ++ 32 ∷ (name_of k ++ 32 ∷ decimal k) = ap (λ t. codes "swapin E" ++ t) (append_assoc (decimal k) (32 ∷ []) (decimal k)) in
      let seed : seed_of (decimal k) ≡ Some k = number_again 18446744073709551615 k (omega arith) (omega arith) in
      by_fields (swapin_line k) (codes "swapin" ∷ name_of k ∷ decimal k ∷ []) (ap fields_of line ∙ two_fields (codes "swapin") k k refl refl (omega arith) (omega arith))
      ∙ rw (named_is k (omega arith), seed) refl

  pub swapout_next : (k : ℕ) → k < 1000 → next_of number (Some (swapout_line k) ∷ rest) ≡ Got (commands.Swapout false (name_of k)) (number + 1) rest
  swapout_next k lt = by_fields (swapout_line k) (codes "swapout" ∷ name_of k ∷ []) (one_field (codes "swapout") k refl refl (omega arith)) ∙ rw (named_is k (omega arith)) refl
