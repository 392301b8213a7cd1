use Rattle.std.proofs.Common.{◌≡◌, length, true, eqb, ◌∙◌}
use Rattle.std.proofs.lemmas.Bool.{eq-eqb}
use Rattle.lab_base.specs.Kinds.{both_of}
use Rattle.lab_base.specs.Texts.{views}
use Rattle.line_text.proofs.SliceLaws.{length-views}
use Rattle.top_text.proofs.lines.pipe_in.Goals as goal

pub returns : goal.returns
returns c =
    let nine : eqb (length (views c.args.fields.now)) 9 ≡ true = eq-eqb _ _ (length-views c.args.fields.now ∙ c.if-fields-ne9.false) in
    let behind = c.both-behind.ensures ∙ (λ i. both_of (c.pipe_ends_at-ends.ensures i) (c.both_rates_at-rates.ensures i)) in
    rw nine (c.both.ensures ∙ (λ i. both_of (c.name_at-name.ensures i) (behind i)))
