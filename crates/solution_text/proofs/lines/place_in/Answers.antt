use Rattle.std.proofs.Common.{◌≡◌, length, true, eqb, ◌∙◌}
use Rattle.std.proofs.lemmas.Bool.{eq-eqb}
use Rattle.lab_base.specs.Kinds.{both_of}
use Rattle.lab_base.specs.Texts.{views}
use Rattle.line_text.proofs.SliceLaws.{length-views}
use Rattle.solution_text.proofs.lines.place_in.Goals as goal

pub returns : goal.returns
returns c =
    let three : eqb (length (views c.args.fields.now)) 3 ≡ true = eq-eqb _ _ (length-views c.args.fields.now ∙ c.if-fields-ne3.false) in
    let place = c.both-place.ensures ∙ (λ i. both_of (c.name_at-node.ensures i) (c.name_at-kind.ensures i)) in
    rw three (c.both.ensures ∙ (λ i. both_of (c.name_at-virt.ensures i) (place i)))
