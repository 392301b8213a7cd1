use Rattle.std.proofs.Common.{◌≡◌, length, true, eqb, ap, ◌∙◌}
use Rattle.std.proofs.lemmas.Bool.{eq-eqb}
use Rattle.lab_base.specs.Kinds.{both_of}
use Rattle.lab_base.specs.Parts.{name_of, number_from}
use Rattle.lab_base.specs.Texts.{views}
use Rattle.line_text.proofs.SliceLaws.{length-views}
use Rattle.lab_ahead.specs.Batches.{run_of}
use Rattle.lab_ahead.proofs.lines.run_in.Goals as goal

pub returns : goal.returns
returns c =
    let three : eqb (length (views c.args.fields.now)) 3 ≡ true = eq-eqb _ _ (length-views c.args.fields.now ∙ c.if-fields-ne3.false) in
    let seed = c.number_in-seed.ensures ∙ ap (number_from 0 18446744073709551615) c.field_at.ensures in
    let span = c.number_in-length.ensures ∙ ap (number_from 1 1000000000000) c.field_at-2.ensures in
    let exp = c.name_in.ensures ∙ ap name_of c.field_at-3.ensures in
    let numbers = c.both.ensures ∙ (λ i. both_of (seed i) (span i)) in
    rw three (c.run_of.ensures ∙ ap run_of (c.both-2.ensures ∙ (λ i. both_of (exp i) (numbers i))))
