-- The script is in the grammar of scripts.
use Rattle.std.proofs.Common.{◌≡◌, ◌∙◌, ℕ, zero, suc, ◌+◌, ◌-◌, ◌*◌, ◌<◌, ◌≤◌, Bool, true, false, List, [], ◌∷◌, ◌++◌, length, codes, Some, refl, sym, ap, subst, arith, append_assoc, append-nil, length-append}
use Rattle.std.specs.Prelude.{nat_le, if◌then◌else◌}
use Rattle.std.specs.List.{flat_map}
use Rattle.lab_io.specs.Lines.{script_lines}
use Rattle.script_text.specs.declared.command.Command.{Command}
use Rattle.script_text.specs.declared.command.Command.TheVariants as commands
use Rattle.script_text.specs.Commands.{AreCommands, AtEnd, IsScript, Lines, behind, block, next_of, Got}
use Rattle.script_text.specs.Taking.{joined, known}
use Rattle.script_text.proofs.Taken.{known_behind}
use Rattle.script_text.proofs.Blocks.{block_whole}
use Rattle.lab_gen.specs.Script.{create_line, drawn_lines, experiment_lines, generated, generated_lines, lab_lines, numbers, swapin_line, swapout_line, swapout_lines, top_lines, virtual_nodes}
use Rattle.lab_gen.proofs.Heads.{create_next, name_of, ptop_next, status_next, swapin_next, swapout_next}
use Rattle.lab_gen.proofs.LineKinds.{generated_are, generated_short, lab_count, top_count}
use Rattle.lab_gen.proofs.Printed.{lines_of_text}

-- LINES ARE COMMANDS, whatever commands follow them
pub record Reads (lines : List (List ℕ)) : Type 0 where
  pub commands : List Command
  pub are : (number : ℕ) (rest : Lines) (others : List Command) → AreCommands (number + length lines) rest others AtEnd → AreCommands number (known lines ++ rest) (commands ++ others) AtEnd

reads_none : Reads []
reads_none = record { commands = []; are = λ number rest others h. let same : number + 0 ≡ number = omega arith in subst (λ n. AreCommands n rest others AtEnd) same h }

reads_more : (xs ys : List (List ℕ)) → Reads xs → Reads ys → Reads (xs ++ ys)
reads_more xs ys first second = record {
  commands = first.commands ++ second.commands;
  are = λ number rest others h.
      let count : number + length (xs ++ ys) ≡ number + length xs + length ys = omega (arith, length-append xs ys) in
      let next = second.are (number + length xs) rest others (subst (λ n. AreCommands n rest others AtEnd) count h) in
      subst (λ (l : Lines). AreCommands number l (first.commands ++ second.commands ++ others) AtEnd) (sym (known_behind xs ys rest))
      (subst (λ (cs : List Command). AreCommands number (known xs ++ (known ys ++ rest)) cs AtEnd) (sym (append_assoc first.commands second.commands others))
      (first.are number (known ys ++ rest) (second.commands ++ others) next));
}

reads_each : (f : ℕ → List (List ℕ)) (a n : ℕ) → ((k : ℕ) → a ≤ k → k < a + n → Reads (f k)) → Reads (flat_map f (numbers a n))
unfolding numbers
reads_each f a zero h = reads_none
reads_each f a (suc n) h = reads_more (f a) (flat_map f (numbers (a + 1) n)) (h a (omega arith) (omega arith)) (reads_each f (a + 1) n (λ k low high. h k (omega arith) (omega arith)))

reads_line : (line : List ℕ) (command : Command) → ((number : ℕ) (rest : Lines) → next_of number (Some line ∷ rest) ≡ Got command (number + 1) rest) → Reads (line ∷ [])
reads_line line command is = record { commands = command ∷ []; are = λ number rest others h. (number + 1, rest, is number rest, h) }

reads_block : (line : List ℕ) (lines : List (List ℕ)) (count : ℕ) (command : List ℕ → Command) → length lines ≡ count
    → ((number : ℕ) (rest : Lines) → next_of number (Some line ∷ rest) ≡ behind (block count [] (number + 1) rest) (λ text. Got (command text))) → Reads (line ∷ lines)
reads_block line lines count command all is = record {
  commands = command (joined lines) ∷ [];
  are = λ number rest others h.
      let last : number + suc (length lines) ≡ number + 1 + length lines = omega arith in (
        number + 1 + length lines,
        rest,
        is number (known lines ++ rest)
            ∙ ap (λ n. behind (block n [] (number + 1) (known lines ++ rest)) (λ text. Got (command text))) (sym all)
            ∙ ap (λ b. behind b (λ text. Got (command text))) (block_whole lines [] (number + 1) rest),
        subst (λ n. AreCommands n rest others AtEnd) last h,
      );
}

-- the commands on an experiment
reads_swapouts : (k : ℕ) → k < 1000 → Reads (swapout_lines k)
reads_swapouts k lt = by (nat_le 3 k)
  where
    by : (b : Bool) → Reads (if b then swapout_line (k - 2) ∷ [] else [])
    by true = reads_line (swapout_line (k - 2)) (commands.Swapout false (name_of (k - 2))) (λ number rest. swapout_next number rest (k - 2) (omega arith))
    by false = reads_none

reads_experiment : (k n : ℕ) → k < 1000 → 0 < n → n < 1000 → Reads (experiment_lines k n)
unfolding experiment_lines
reads_experiment k n lt some few =
    let create = reads_block (create_line k n) (top_lines n) (2 * n - 1) (λ text. commands.CreateTop (name_of k) (2 * n - 1) text) (top_count n some) (λ number rest. create_next number rest k n lt few) in
    let swapin = reads_line (swapin_line k) (commands.Swapin false (name_of k) k) (λ number rest. swapin_next number rest k lt) in
    reads_more (create_line k n ∷ top_lines n) (swapin_line k ∷ swapout_lines k) create (reads_more (swapin_line k ∷ []) (swapout_lines k) swapin (reads_swapouts k lt))

reads_generated : (seed : ℕ) → Reads (generated_lines seed)
unfolding generated_lines
reads_generated seed =
    let first = codes "ptop 328" in
    let all = flat_map (drawn_lines seed) (numbers 1 40) in
    let lab = reads_block first lab_lines 328 (λ text. commands.Ptop 328 text) lab_count (λ number rest. ptop_next number rest) in
    let experiments : Reads all = reads_each (drawn_lines seed) 1 40 (λ k low high. reads_experiment k (virtual_nodes seed k) (omega arith) (omega arith) (omega arith)) in
    let last = reads_line (codes "status") commands.Status (λ number rest. status_next number rest) in
    reads_more (first ∷ lab_lines ++ all) (codes "status" ∷ []) (reads_more (first ∷ lab_lines) all lab experiments) last

-- THE SCRIPT IS IN THE GRAMMAR
pub in_grammar : (seed : ℕ) → (commands : List Command) × IsScript (generated seed) commands AtEnd
in_grammar seed =
    let lines = generated_lines seed in
    let reads = reads_generated seed in
    let are : AreCommands 0 (known lines ++ []) (reads.commands ++ []) AtEnd = reads.are 0 [] [] refl in
    let read : script_lines (generated seed) ≡ known lines ++ [] = lines_of_text lines 0 (generated_are seed) (omega (arith, generated_short seed)) ∙ sym (append-nil (known lines)) in
    (reads.commands ++ [], subst (λ (l : Lines). AreCommands 0 l (reads.commands ++ []) AtEnd) (sym read) are)
