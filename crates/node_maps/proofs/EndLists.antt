-- The ends of a wiring are of its virtual nodes.
use Rattle.std.proofs.Common.{◌≡◌, ◌<◌, ◌+◌, ◌∷◌, [], ◌++◌, ◌∙◌, ℕ, List, length, get_or, map, All, refl, ap, sym, subst, arith}
use Rattle.std.proofs.lemmas.List.{length-map, get_or-map}
use Rattle.virt_topo.specs.declared.wiring.VirtEnd.{VirtEnd}
use Rattle.virt_topo.specs.declared.wiring.Segment.{Segment}
use Rattle.virt_topo.specs.declared.wiring.Wiring.{Wiring}
use Rattle.virt_topo.specs.Ends.{end_nodes}
use Rattle.virt_topo.specs.Soundness.{IsSound}
use Rattle.lab_model.proofs.WiringLaws.{sound_ends}
use Rattle.node_maps.specs.declared.ends.End.{End}
use Rattle.node_maps.specs.NodeMaps.{segment_end, ends_from, ends_of}

nodes_in : (n : ℕ) (s : Segment) (es : List VirtEnd) (rest : List Segment) → map (λ (e : End). e.node) (ends_from (n + 1) rest) ≡ end_nodes rest
    → map (λ (e : End). e.node) (map (segment_end n s) es ++ ends_from (n + 1) rest) ≡ map (λ e. e.node) es ++ end_nodes rest
nodes_in n s [] rest h = h
nodes_in n s (e ∷ es) rest h = ap (λ (l : List ℕ). e.node ∷ l) (nodes_in n s es rest h)

nodes_from : (n : ℕ) (segments : List Segment) → map (λ (e : End). e.node) (ends_from n segments) ≡ end_nodes segments
nodes_from n [] = refl
nodes_from n (s ∷ segments) = nodes_in n s s.ends segments (nodes_from (n + 1) segments)

pub same_nodes : (segments : List Segment) → map (λ (e : End). e.node) (ends_of segments) ≡ end_nodes segments
same_nodes segments = nodes_from 0 segments

pub same_length : (segments : List Segment) → length (ends_of segments) ≡ length (end_nodes segments)
same_length segments = sym (length-map (ends_of segments) (λ (e : End). e.node)) ∙ ap (λ (l : List ℕ). length l) (same_nodes segments)

pub on_nodes : (w : Wiring) → IsSound w → All (λ (e : End). e.node < length w.nodes) (ends_of w.segments)
on_nodes w sound k d lt =
    let same : get_or (end_nodes w.segments) k 0 ≡ (get_or (ends_of w.segments) k d).node =
    sym (ap (λ (l : List ℕ). get_or l k 0) (same_nodes w.segments)) ∙ get_or-map (λ (e : End). e.node) (ends_of w.segments) k d 0 lt in
    subst (λ (n : ℕ). n < length w.nodes) same (sound_ends w sound k (omega (arith, lt, same_length w.segments)))
