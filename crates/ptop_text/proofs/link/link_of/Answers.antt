use Rattle.std.proofs.Common.{◌∙◌}
use Rattle.lab_base.specs.Kinds.{both_of}
use Rattle.ptop_text.proofs.link.link_of.Goals as goal

pub returns : goal.returns
returns c =
    let ends = c.both-ends.ensures ∙ (λ i. both_of (c.numbered_short.ensures i) (c.number_in-speed.ensures i)) in
    let behind = c.both.ensures ∙ (λ i. both_of (c.first_field.ensures i) (ends i)) in
    c.both-2.ensures ∙ (λ i. both_of (c.name_in.ensures i) (behind i))
