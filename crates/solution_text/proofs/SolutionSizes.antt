-- How long the canonical text of a mapping is.
use Rattle.std.proofs.Common.{◌≡◌, ℕ, ◌+◌, ◌*◌, ◌≤◌, true, [], ◌∷◌, ◌++◌, length, map, ap, ◌∙◌, arith, length-append}
use Rattle.std.specs.Prelude.{codes}
use Rattle.std.specs.List.{zip}
use Rattle.std.proofs.lemmas.Grind.{flat_map-append}
use Rattle.lab_base.specs.declared.ids.IfaceId.{IfaceId}
use Rattle.lab_base.proofs.Names.{name_short}
use Rattle.line_text.specs.Printing.{line_text, text_of, with_number}
use Rattle.line_text.proofs.Widths.{width, line_length, lines_length, pair_length}
use Rattle.phys_lab.specs.Labs.{Lab}
use Rattle.phys_lab.specs.Kept.{IsLab}
use Rattle.virt_topo.specs.Ends.{end_nodes}
use Rattle.virt_topo.specs.Soundness.{IsSound}
use Rattle.virt_topo.specs.declared.wiring.VirtNode.{VirtNode}
use Rattle.virt_topo.specs.declared.wiring.Wiring.{Wiring}
use Rattle.virt_topo.specs.declared.mapping.Mapping.{Mapping}
use Rattle.virt_topo.proofs.CableLaws.{limits_of}
use Rattle.lab_model.specs.Shapes.{Place, IsShaped, node_at}
use Rattle.lab_model.specs.Uses.{iface_at}
use Rattle.top_text.specs.Canonical.{virt_name}
use Rattle.top_text.specs.Printable.{are_named}
use Rattle.solution_text.specs.CanonicalSolution.{end_keys, place_fields, iface_field, plug_fields, canonical_solution}
use Rattle.solution_text.proofs.EndKeys.{keys_length}
use Rattle.solution_text.proofs.ZipLaws.{zip_length}
use Rattle.top_text.proofs.SoundTests.{sound_tests}
use Rattle.solution_text.proofs.SolutionAgain.{PlaceNames, PlugNames, place_names, plug_names}

place_length : (lab : Lab) (z : VirtNode × Place) → PlaceNames lab z → length (line_text (place_fields lab z)) ≤ 104
unfolding width
place_length lab z is =
    omega (arith, line_length (codes "node") (z.0.name ∷ (node_at lab z.1.0).name ∷ z.1.1 ∷ []), name_short z.0.name is.virt, name_short (node_at lab z.1.0).name is.node, name_short z.1.1 is.type)

plug_length : (lab : Lab) (w : Wiring) (z : (ℕ × ℕ) × IfaceId) → PlugNames lab w z → length (line_text (plug_fields lab w z)) ≤ 109
unfolding width
plug_length lab w z is =
    let iface = iface_at lab z.1 in
    let end : length (with_number (virt_name w z.0.0, z.0.1)) ≤ 37 = pair_length (virt_name w z.0.0) z.0.1 4 is.virt (omega arith) (omega (arith, is.few)) (omega (arith, is.few)) in
    let field : length ((node_at lab iface.node).name ++ 58 ∷ iface.name) ≡ length (node_at lab iface.node).name + length (58 ∷ iface.name) = length-append (node_at lab iface.node).name (58 ∷ iface.name) in
    omega (arith, line_length (codes "plug") (with_number (virt_name w z.0.0, z.0.1) ∷ iface_field lab z.1 ∷ []), end, field, name_short (node_at lab iface.node).name is.node, name_short iface.name is.iface)

pub solution_length : (lab : Lab) (w : Wiring) (m : Mapping) → IsLab lab → IsSound w → are_named w.nodes ≡ true → IsShaped lab w m → length (canonical_solution lab w m) ≤ 16777216
solution_length lab w m lab_is sound named shaped =
    let placed = zip w.nodes m.places in
    let plugged = zip (end_keys [] (end_nodes w.segments)) m.plugs in
    let limits = limits_of w (sound_tests w sound).limits in
    let keys = keys_length [] (end_nodes w.segments) in
    let places_count : length placed ≡ length w.nodes = zip_length w.nodes m.places shaped.places in
    let same : length m.plugs ≡ length (end_keys [] (end_nodes w.segments)) = omega (arith, shaped.plugs, keys) in
    let plugs_count : length plugged ≡ length (end_keys [] (end_nodes w.segments)) = zip_length (end_keys [] (end_nodes w.segments)) m.plugs same in
    let places : length (text_of (map (place_fields lab) placed)) ≤ 104 * length placed = lines_length (place_fields lab) 104 placed (λ z h. place_length lab z (place_names lab w m lab_is sound named shaped z h)) in
    let plugs : length (text_of (map (plug_fields lab w) plugged)) ≤ 109 * length plugged = lines_length (plug_fields lab w) 109 plugged (λ z h. plug_length lab w z (plug_names lab w m lab_is sound named shaped z h)) in
    let whole : length (canonical_solution lab w m) ≡ length (text_of (map (place_fields lab) placed)) + length (text_of (map (plug_fields lab w) plugged)) =
    ap length (flat_map-append line_text (map (place_fields lab) placed) (map (plug_fields lab w) plugged)) ∙ length-append (text_of (map (place_fields lab) placed)) (text_of (map (plug_fields lab w) plugged)) in
    bound _ _ _ _ _ whole places plugs (omega (arith, places_count, limits.nodes)) (omega (arith, plugs_count, keys, limits.ends))
  where
    bound : (all places plugs n e : ℕ) → all ≡ places + plugs → places ≤ 104 * n → plugs ≤ 109 * e → n ≤ 256 → e ≤ 4096 → all ≤ 16777216
    bound all places plugs n e h a b c d = omega arith
