use Rattle.std.proofs.Common.{◌∙◌}
use Rattle.lab_base.specs.Kinds.{both_of}
use Rattle.plant_file.specs.Lines.{as_bare}
use Rattle.plant_file.proofs.lines.bare_in.Goals as goal

pub returns : goal.returns
returns c =
    let whole = c.both-whole.ensures ∙ (λ i. both_of (c.name_at-node.ensures i) (c.boot_at-state.ensures i)) in
    c.as_bare.ensures ∙ (λ i. as_bare (whole i))
