use Rattle.std.proofs.Common.{sym, ◌∙◌}
use Rattle.std.proofs.lemmas.Result.{err_from_is_err_and}
use Rattle.records_model.specs.Labs.{HasText}
use Rattle.top_text.specs.Adding.{wiring_of_text}
use Rattle.top_text.specs.Canonical.{canonical_top}
use Rattle.top_text.proofs.TopWhole.{top_again}
use Rattle.lab_state.specs.Texts.{the_texts}
use Rattle.lab_state.proofs.TextLaws.{bad_text, misprinted, unequal}
use Rattle.lab_state.proofs.texts.wiring_of.Goals as goal

pub returns-in_err-wiring-clause-bad : goal.returns-in_err-wiring-clause-bad
returns-in_err-wiring-clause-bad c =
    let p = err_from_is_err_and c.from_residual.result c.from_residual.ensures.1 in
    rw (p.1, p.2) (bad_text (wiring_of_text) (canonical_top) (HasText the_texts) (λ w text. top_again w text.sound text.printable) c.args.text.now c.in_err-wiring.field-0.0 (c.in_err-wiring.ensures.reads))

pub returns-clause-bad : goal.returns-clause-bad
returns-clause-bad c = λ other is same.
    let x = c.in_ok-wiring.wiring in
    misprinted (wiring_of_text) (canonical_top) (HasText the_texts) (λ w text. top_again w text.sound text.printable) c.args.text.now x c.in_ok-wiring.ensures.reads
    (λ e. unequal c.bytes.result.now c.args.text.now (sym c.eq.ensures ∙ c.if-eq.false) (c.bytes.ensures ∙ c.in-Ok.ensures.text ∙ e)) other is same
