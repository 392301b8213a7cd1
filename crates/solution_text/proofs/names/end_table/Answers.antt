use Rattle.std.proofs.Common.{List, ℕ, ap, ◌∙◌}
use Rattle.std.specs.List.{position}
use Rattle.virt_topo.specs.declared.wiring.Segment.{Segment}
use Rattle.virt_topo.specs.Ends.{end_nodes}
use Rattle.std.specs.Prelude.{[]}
use Rattle.solution_text.specs.CanonicalSolution.{end_keys}
use Rattle.solution_text.specs.Names.{same_key}
use Rattle.solution_text.proofs.EndKeys.{key_place}
use Rattle.solution_text.proofs.Places.{also}
use Rattle.solution_text.proofs.names.end_table.Goals as goal

pub returns : goal.returns
returns c =
    also c.numbered.result c.numbered.ensures
    (λ table is key. is key ∙ ap (λ (l : List (ℕ × ℕ)). position (same_key key) l) (c.as_slice-2.ensures ∙ c.in_ok-keys.ensures ∙ ap (λ (l : List Segment). end_keys [] (end_nodes l)) c.as_slice.ensures)
    ∙ key_place (end_nodes c.args.wiring.now.segments) key.0 key.1)
