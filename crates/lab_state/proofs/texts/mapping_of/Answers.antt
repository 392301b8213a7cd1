use Rattle.std.proofs.Common.{sym, ◌∙◌}
use Rattle.std.proofs.lemmas.Result.{err_from_is_err_and}
use Rattle.lab_model.specs.Shapes.{IsShaped}
use Rattle.solution_text.specs.Solutions.{mapping_of_text}
use Rattle.solution_text.specs.CanonicalSolution.{canonical_solution}
use Rattle.solution_text.proofs.SolutionAgain.{canonical_again}
use Rattle.lab_state.proofs.TextLaws.{bad_text, misprinted, unequal, are_named_of}
use Rattle.lab_state.proofs.texts.mapping_of.Goals as goal

pub returns-in_err-mapping-clause-bad : goal.returns-in_err-mapping-clause-bad
returns-in_err-mapping-clause-bad c =
    let p = err_from_is_err_and c.from_residual.result c.from_residual.ensures.1 in
    rw (p.1, p.2) (bad_text (mapping_of_text c.args.lab.now c.args.wiring.now) (canonical_solution c.args.lab.now c.args.wiring.now) (IsShaped c.args.lab.now c.args.wiring.now) (λ m shaped. canonical_again c.args.lab.now c.args.wiring.now m c.range-kept.ensures.lab c.requires.wiring.sound (are_named_of c.args.wiring.now c.requires.wiring.printable) shaped) c.args.text.now c.in_err-mapping.field-0.0 (c.in_err-mapping.ensures.reads))

pub returns-else-eq-clause-bad : goal.returns-else-eq-clause-bad
returns-else-eq-clause-bad c = λ other is same.
    let x = c.in_ok-mapping.mapping in
    misprinted (mapping_of_text c.args.lab.now c.args.wiring.now) (canonical_solution c.args.lab.now c.args.wiring.now) (IsShaped c.args.lab.now c.args.wiring.now) (λ m shaped. canonical_again c.args.lab.now c.args.wiring.now m c.range-kept.ensures.lab c.requires.wiring.sound (are_named_of c.args.wiring.now c.requires.wiring.printable) shaped) c.args.text.now x c.in_ok-mapping.ensures.reads
    (λ e. unequal c.bytes.result.now c.args.text.now (sym c.eq.ensures ∙ c.if-eq.false) (c.bytes.ensures ∙ c.in_ok-printed.ensures.text ∙ e)) other is same
