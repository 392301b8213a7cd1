use Rattle.std.proofs.Common.{◌∙◌}
use Rattle.lab_base.specs.Kinds.{both_of}
use Rattle.top_text.proofs.lines.node_in.Goals as goal

pub returns : goal.returns
returns c =
    let system = c.both-system.ensures ∙ (λ i. both_of (c.name_at-os.ensures i) (c.in_ok-desires.ensures i)) in
    let behind = c.both-behind.ensures ∙ (λ i. both_of (c.name_at-kind.ensures i) (system i)) in
    c.both.ensures ∙ (λ i. both_of (c.name_at-name.ensures i) (behind i))
