use Rattle.std.proofs.Common.{◌∙◌}
use Rattle.lab_base.specs.Kinds.{both_of}
use Rattle.top_text.proofs.lines.link_in.Goals as goal

pub returns : goal.returns
returns c =
    let speed = c.both-speed.ensures ∙ (λ i. both_of (c.kbps_at-kbps.ensures i) (c.in_ok-ends.ensures i)) in
    let behind = c.both-behind.ensures ∙ (λ i. both_of (c.name_at-owner.ensures i) (speed i)) in
    c.both.ensures ∙ (λ i. both_of (c.name_at-name.ensures i) (behind i))
