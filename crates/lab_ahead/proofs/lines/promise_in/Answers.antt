use Rattle.std.proofs.Common.{◌≡◌, length, true, eqb, ap, ◌∙◌}
use Rattle.std.proofs.lemmas.Bool.{eq-eqb}
use Rattle.lab_base.specs.Kinds.{both_of}
use Rattle.lab_base.specs.Parts.{name_of, number_from}
use Rattle.lab_base.specs.Texts.{views}
use Rattle.line_text.proofs.SliceLaws.{length-views}
use Rattle.lab_ahead.specs.Batches.{in_order}
use Rattle.lab_ahead.proofs.lines.promise_in.Goals as goal

pub returns : goal.returns
returns c =
    let four : eqb (length (views c.args.fields.now)) 4 ≡ true = eq-eqb _ _ (length-views c.args.fields.now ∙ c.if-fields-ne4.false) in
    let from = c.number_in-from.ensures ∙ ap (number_from 0 1000000000000) c.field_at.ensures in
    let to = c.number_in-to.ensures ∙ ap (number_from 0 1000000000000) c.field_at-2.ensures in
    let count = c.short_in-count.ensures ∙ ap (number_from 1 1024) c.field_at-3.ensures in
    let kind = c.name_in.ensures ∙ ap name_of c.field_at-4.ensures in
    let moments = c.both.ensures ∙ (λ i. both_of (from i) (to i)) in
    let numbers = c.both-2.ensures ∙ (λ i. both_of (count i) (moments i)) in
    rw four (c.in_order.ensures ∙ ap in_order (c.both-3.ensures ∙ (λ i. both_of (kind i) (numbers i))))
