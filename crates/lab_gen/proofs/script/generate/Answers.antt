use Rattle.std.proofs.Common.{◌≡◌, ◌∙◌, ◌<◌, ◌^◌, List, ℕ, [], ◌∷◌, ◌++◌, ap, codes, length, subst, sym}
use Rattle.std.specs.List.{flat_map}
use Rattle.lab_gen.specs.Script.{drawn_lines, generated, lab_lines, numbers, generated_lines}
use Rattle.lab_gen.proofs.Texts.{lines_added}
use Rattle.lab_gen.proofs.LineKinds.{generated_short}
use Rattle.lab_gen.proofs.Grammar.{in_grammar}
use Rattle.script_text.specs.Commands.{AtEnd, IsScript}
use Rattle.script_text.specs.declared.command.Command.{Command}
use Rattle.lab_gen.proofs.script.generate.Goals as goal

text_is : (c : goal.In_ok-push_bytes-2) → c.push_bytes-2.new.self ≡ generated c.args.seed
unfolding generated_lines
text_is c =
    let first = codes "ptop 328" ∷ [] in
    let experiments = flat_map (drawn_lines c.args.seed) (numbers 1 40) in
    let none : List ℕ = [] in
    let zero = c.in_ok-push_bytes.ensures.ok ∙ ap (λ (t : List ℕ). t ++ codes "ptop 328\n") c.new-text.ensures in
    let one = lines_added none c.push_bytes.new.self c.push_lab.new.text first lab_lines zero c.in_ok-push_lab.ensures in
    let two = lines_added none c.push_lab.new.text c.push_experiments.new.text (first ++ lab_lines) experiments one c.in_ok-push_experiments.ensures in
    lines_added none c.push_experiments.new.text c.push_bytes-2.new.self (first ++ lab_lines ++ experiments) (codes "status" ∷ []) two c.in_ok-push_bytes-2.ensures.ok

pub returns-clause-text : goal.returns-clause-text
returns-clause-text c = text_is c

pub returns-clause-short : goal.returns-clause-short
returns-clause-short c = subst (λ (t : List ℕ). length t < 2 ^ 32) (sym (text_is c)) (generated_short c.args.seed)

pub returns-clause-script : goal.returns-clause-script
returns-clause-script c = subst (λ (t : List ℕ). (commands : List Command) × IsScript t commands AtEnd) (sym (text_is c)) (in_grammar c.args.seed)
