use Rattle.std.proofs.Common.{sym, ◌∙◌}
use Rattle.std.proofs.lemmas.Result.{err_from_is_err_and}
use Rattle.phys_lab.specs.Kept.{IsLab}
use Rattle.ptop_text.specs.Adding.{lab_of_text}
use Rattle.ptop_text.specs.Canonical.{canonical}
use Rattle.ptop_text.proofs.LabAgain.{canonical_again}
use Rattle.lab_state.proofs.TextLaws.{bad_text, misprinted, unequal, ptop_refused}
use Rattle.lab_state.proofs.texts.lab_of.Goals as goal

pub returns-in_err-lab-clause-bad : goal.returns-in_err-lab-clause-bad
returns-in_err-lab-clause-bad c =
    let p = err_from_is_err_and c.from_residual.result c.from_residual.ensures.1 in
    rw (p.1, p.2) (bad_text (lab_of_text) (canonical) (IsLab) (canonical_again) c.args.text.now c.in_err-lab.field-0.0 (ptop_refused c.in_err-lab.field-0.0 (lab_of_text c.args.text.now) c.in_err-lab.ensures))

pub returns-clause-bad : goal.returns-clause-bad
returns-clause-bad c = λ other is same.
    let x = c.in_ok-lab.lab in
    misprinted (lab_of_text) (canonical) (IsLab) (canonical_again) c.args.text.now x c.in_ok-lab.ensures
    (λ e. unequal c.bytes.result.now c.args.text.now (sym c.eq.ensures ∙ c.if-eq.false) (c.bytes.ensures ∙ c.in-Ok.ensures.text ∙ e)) other is same
