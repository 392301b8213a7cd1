-- The limits of a sound wiring and of a node of a lab.
use Rattle.std.proofs.Common.{ℕ, ◌<◌, ◌≤◌, length}
use Rattle.std.proofs.lemmas.Bool.{and_parts, leb-true}
use Rattle.phys_lab.specs.Labs.{Lab}
use Rattle.phys_lab.specs.Kept.{IsLab}
use Rattle.virt_topo.specs.declared.wiring.Wiring.{Wiring}
use Rattle.virt_topo.specs.Soundness.{IsSound, limits_node}
use Rattle.virt_topo.proofs.CableLaws.{sound_limits}
use Rattle.lab_base.specs.declared.ids.NodeId.{NodeId}
use Rattle.lab_base.proofs.Members.{all_has, Has-get_or}
use Rattle.virt_topo.specs.Wirings.{virt_at, no_virt}
use Rattle.lab_model.specs.Shapes.{node_at, no_node}

pub few_desires : (w : Wiring) (v : ℕ) → IsSound w → v < length w.nodes → length (virt_at w v).desires ≤ 8
few_desires w v sound lt =
    leb-true _ _ (and_parts _ _ (all_has limits_node w.nodes (virt_at w v) (sound_limits w sound).each_node (Has-get_or w.nodes v no_virt lt))).0

pub few_features : (lab : Lab) (n : NodeId) → IsLab lab → n.0 < length lab.nodes → length (node_at lab n).features ≤ 8
few_features lab n is lt = (is.nodes (node_at lab n) (Has-get_or lab.nodes n.0 no_node lt)).few_features
