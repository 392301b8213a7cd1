use Rattle.std.proofs.Common.{◌≡◌, ℕ, List, length, [], sym, ap, ◌∙◌}
use Rattle.lab_base.specs.declared.ids.IfaceId.{IfaceId}
use Rattle.virt_topo.specs.Ends.{end_nodes}
use Rattle.virt_topo.specs.declared.wiring.Segment.{Segment}
use Rattle.solution_text.specs.CanonicalSolution.{end_keys}
use Rattle.solution_text.proofs.EndKeys.{keys_length}
use Rattle.solution_text.proofs.print.push_mapping.Goals as goal

pub push_plugs-requires-clause-plugs : goal.push_plugs-requires-clause-plugs
push_plugs-requires-clause-plugs c =
    let segments = c.args.wiring.now.segments in
    let keys : c.as_slice-4.result.now ≡ end_keys [] (end_nodes segments) = c.as_slice-4.ensures ∙ c.in_ok-keys.ensures ∙ ap (λ (l : List Segment). end_keys [] (end_nodes l)) c.as_slice.ensures in
    ap (λ (l : List IfaceId). length l) c.as_slice-5.ensures ∙ c.requires.plugs ∙ sym (keys_length [] (end_nodes segments)) ∙ sym (ap (λ (l : List (ℕ × ℕ)). length l) keys)
