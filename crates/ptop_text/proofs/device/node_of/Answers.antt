use Rattle.std.proofs.Common.{◌∙◌, ap}
use Rattle.lab_base.specs.Kinds.{both_of}
use Rattle.ptop_text.specs.Lines.{as_node}
use Rattle.ptop_text.proofs.device.node_of.Goals as goal

pub returns : goal.returns
returns c = c.as_node.ensures ∙ ap as_node (c.both-2.ensures ∙ (λ i. both_of (c.name_in.ensures i) (c.both.ensures i)))
