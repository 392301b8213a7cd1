use Rattle.std.proofs.Common.{◌≡◌, length, true, eqb, ◌∙◌}
use Rattle.std.proofs.lemmas.Bool.{eq-eqb}
use Rattle.lab_base.specs.Kinds.{both_of}
use Rattle.lab_base.specs.Texts.{views}
use Rattle.line_text.proofs.SliceLaws.{length-views}
use Rattle.plant_file.specs.Lines.{as_row}
use Rattle.plant_file.proofs.lines.row_in.Goals as goal

pub returns : goal.returns
returns c =
    let three : eqb (length (views c.args.fields.now)) 3 ≡ true = eq-eqb _ _ (length-views c.args.fields.now ∙ c.if-fields-ne3.false) in
    let behind = c.both-behind.ensures ∙ (λ i. both_of (c.short_at-port.ensures i) (c.short_at-vlan.ensures i)) in
    let whole = c.both-whole.ensures ∙ (λ i. both_of (c.name_at-switch.ensures i) (behind i)) in
    rw three (c.as_row.ensures ∙ (λ i. as_row (whole i)))
