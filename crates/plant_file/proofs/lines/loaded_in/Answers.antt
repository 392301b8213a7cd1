use Rattle.std.proofs.Common.{◌∙◌}
use Rattle.lab_base.specs.Kinds.{both_of}
use Rattle.plant_file.specs.Lines.{as_node}
use Rattle.plant_file.proofs.lines.loaded_in.Goals as goal

pub returns : goal.returns
returns c =
    let behind = c.both-behind.ensures ∙ (λ i. both_of (c.boot_at-state.ensures i) (c.name_at-os.ensures i)) in
    let whole = c.both-whole.ensures ∙ (λ i. both_of (c.name_at-node.ensures i) (behind i)) in
    c.as_node.ensures ∙ (λ i. as_node (whole i))
