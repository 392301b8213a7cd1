use Rattle.std.proofs.Common.{List, ℕ, ap, ◌∙◌}
use Rattle.std.specs.List.{position}
use Rattle.lab_base.specs.Names.{same_name}
use Rattle.line_text.proofs.SliceLaws.{position-map}
use Rattle.phys_lab.specs.declared.parts.Node.{Node}
use Rattle.solution_text.proofs.Places.{also}
use Rattle.solution_text.proofs.names.node_table.Goals as goal

pub returns : goal.returns
returns c =
    also c.numbered.result c.numbered.ensures
    (λ table is name. is name ∙ ap (λ (l : List (List ℕ)). position (same_name name) l) (c.as_slice.ensures ∙ c.in_ok-names.ensures) ∙ position-map (same_name name) (λ (n : Node). n.name) c.nodes.result.now
    ∙ ap (λ (l : List Node). position (λ n. same_name name n.name) l) c.nodes.ensures)
