use Rattle.std.proofs.Common.{◌≡◌, ◌≤◌, ℕ, List, length, ap, sym, subst, arith, ◌∙◌}
use Rattle.std.proofs.lemmas.Grind.{common_steps}
use Rattle.solution_text.specs.Solutions.{mapping_of_text}
use Rattle.solution_text.specs.CanonicalSolution.{canonical_solution}
use Rattle.solution_text.proofs.SolutionAgain.{canonical_again}
use Rattle.solution_text.proofs.SolutionSizes.{solution_length}
use Rattle.solution_text.proofs.print.print_solution.Goals as goal

pub returns-clause-again : goal.returns-clause-again
returns-clause-again c = λ sound.
    let lab = c.args.lab.now in
    let w = c.args.wiring.now in
    let text : c.push_mapping.new.text ≡ canonical_solution lab w c.args.mapping.now = grind (arith, common_steps) in
    ap (mapping_of_text lab w) text ∙ canonical_again lab w c.args.mapping.now c.range-kept.ensures.lab sound c.in_ok-push_mapping.ensures.named c.requires

pub returns-clause-size : goal.returns-clause-size
returns-clause-size c = λ sound.
    let lab = c.args.lab.now in
    let w = c.args.wiring.now in
    let text : c.push_mapping.new.text ≡ canonical_solution lab w c.args.mapping.now = grind (arith, common_steps) in
    subst (λ (t : List ℕ). length t ≤ 16777216) (sym text) (solution_length lab w c.args.mapping.now c.range-kept.ensures.lab sound c.in_ok-push_mapping.ensures.named c.requires)
