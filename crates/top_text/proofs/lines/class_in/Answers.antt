use Rattle.std.proofs.Common.{◌∙◌}
use Rattle.lab_base.specs.Kinds.{both_of}
use Rattle.top_text.specs.Lines.{as_class}
use Rattle.top_text.proofs.lines.class_in.Goals as goal

pub returns : goal.returns
returns c =
    let behind = c.both-behind.ensures ∙ (λ i. both_of (c.weight_at-weight.ensures i) (c.in_ok-types.ensures i)) in
    let whole = c.both-whole.ensures ∙ (λ i. both_of (c.name_at-name.ensures i) (behind i)) in
    c.as_class.ensures ∙ (λ i. as_class (whole i))
