use Rattle.std.proofs.Common.{◌≡◌, length, true, eqb, ◌∙◌}
use Rattle.std.proofs.lemmas.Bool.{eq-eqb}
use Rattle.lab_base.specs.Kinds.{both_of}
use Rattle.lab_base.specs.Texts.{views}
use Rattle.line_text.proofs.SliceLaws.{length-views}
use Rattle.solution_text.proofs.lines.plug_in.Goals as goal

pub returns : goal.returns
returns c =
    let two : eqb (length (views c.args.fields.now)) 2 ≡ true = eq-eqb _ _ (length-views c.args.fields.now ∙ c.if-fields-ne2.false) in
    rw two (c.both.ensures ∙ (λ i. both_of (c.end_at-end.ensures i) (c.pair_at-iface.ensures i)))
