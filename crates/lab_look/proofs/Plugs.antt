-- The switches of a node's interfaces, found among those of all nodes.
use Rattle.std.proofs.Common.{◌≡◌, ◌<◌, ℕ, List, [], length, map, get_or, ap, ◌∙◌}
use Rattle.std.proofs.lemmas.List.{get_or-map, length-map}
use Rattle.phys_lab.specs.Labs.{Lab}
use Rattle.phys_lab.specs.declared.parts.Node.{Node}
use Rattle.lab_seen.specs.Claimed.{plugs_of}

pub plugs_len : (lab : Lab) (lists : List (List ℕ)) → lists ≡ map (λ (node : Node). plugs_of lab node.name) lab.nodes → length lists ≡ length lab.nodes
plugs_len lab lists is = ap (λ (l : List (List ℕ)). length l) is ∙ length-map lab.nodes (λ (node : Node). plugs_of lab node.name)

pub plugs_here : (lab : Lab) (lists : List (List ℕ)) (n : ℕ) (d : Node) → lists ≡ map (λ (node : Node). plugs_of lab node.name) lab.nodes → n < length lab.nodes
    → get_or lists n [] ≡ plugs_of lab (get_or lab.nodes n d).name
plugs_here lab lists n d is lt =
    ap (λ (l : List (List ℕ)). get_or l n []) is ∙ get_or-map (λ (node : Node). plugs_of lab node.name) lab.nodes n d [] lt
