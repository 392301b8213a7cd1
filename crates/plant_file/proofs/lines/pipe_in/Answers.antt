use Rattle.std.proofs.Common.{◌≡◌, length, true, eqb, ◌∙◌}
use Rattle.std.proofs.lemmas.Bool.{eq-eqb}
use Rattle.lab_base.specs.Kinds.{both_of}
use Rattle.lab_base.specs.Texts.{views}
use Rattle.line_text.proofs.SliceLaws.{length-views}
use Rattle.plant_file.specs.Lines.{as_pipe}
use Rattle.plant_file.proofs.lines.pipe_in.Goals as goal

pub returns : goal.returns
returns c =
    let ten : eqb (length (views c.args.fields.now)) 10 ≡ true = eq-eqb _ _ (length-views c.args.fields.now ∙ c.if-fields-ne10.false) in
    let behind = c.both-behind.ensures ∙ (λ i. both_of (c.interfaces_at-interfaces.ensures i) (c.both_rates_at-rates.ensures i)) in
    let whole = c.both-whole.ensures ∙ (λ i. both_of (c.pipe_key_at-key.ensures i) (behind i)) in
    rw ten (c.as_pipe.ensures ∙ (λ i. as_pipe (whole i)))
