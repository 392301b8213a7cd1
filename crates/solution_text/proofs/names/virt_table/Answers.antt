use Rattle.std.proofs.Common.{List, ℕ, ap, ◌∙◌}
use Rattle.std.specs.List.{position}
use Rattle.lab_base.specs.Names.{same_name}
use Rattle.line_text.proofs.SliceLaws.{position-map}
use Rattle.virt_topo.specs.declared.wiring.VirtNode.{VirtNode}
use Rattle.solution_text.proofs.Places.{also}
use Rattle.solution_text.proofs.names.virt_table.Goals as goal

pub returns : goal.returns
returns c =
    also c.numbered.result c.numbered.ensures
    (λ table is name. is name ∙ ap (λ (l : List (List ℕ)). position (same_name name) l) (c.as_slice-2.ensures ∙ c.in_ok-names.ensures) ∙ position-map (same_name name) (λ (v : VirtNode). v.name) c.as_slice.result.now
    ∙ ap (λ (l : List VirtNode). position (λ v. same_name name v.name) l) c.as_slice.ensures)
