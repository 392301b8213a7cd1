use Rattle.std.proofs.Common.{List, ℕ, ap, ◌∙◌}
use Rattle.std.specs.List.{position}
use Rattle.lab_base.specs.Names.{same_name}
use Rattle.line_text.proofs.SliceLaws.{position-map}
use Rattle.virt_topo.specs.declared.wiring.VirtNode.{VirtNode}
use Rattle.top_text.proofs.so_far.SoFar.virt_named.Goals as goal

pub returns : goal.returns
returns c =
    c.node_named.ensures.place ∙ ap (λ (l : List (List ℕ)). position (same_name c.args.name) l) c.requires.tables.nodes
    ∙ position-map (same_name c.args.name) (λ (v : VirtNode). v.name) c.args.self.now.wiring.nodes
