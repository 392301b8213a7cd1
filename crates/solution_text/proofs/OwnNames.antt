-- The numbers of a lab's nodes and interfaces by their own names.
use Rattle.std.proofs.Common.{◌≡◌, ◌≢◌, ℕ, ◌<◌, ◌&&◌, List, [], length, map, Some, sym, ap, ◌∙◌}
use Rattle.std.specs.List.{position}
use Rattle.std.proofs.Math.ListN.{get_or-map}
use Rattle.lab_base.specs.Names.{same_name}
use Rattle.lab_base.specs.Lists.{AllDiffer}
use Rattle.lab_base.specs.declared.ids.NodeId.{NodeId}
use Rattle.lab_base.specs.declared.ids.IfaceId.{IfaceId}
use Rattle.lab_base.proofs.Members.{Apart-right}
use Rattle.lab_base.proofs.Bytes.{bytes_same, bytes_turned, bytes_self}
use Rattle.lab_base.proofs.Numbers.{eqb_turned}
use Rattle.phys_lab.specs.Labs.{Lab}
use Rattle.phys_lab.specs.Kept.{IsLab}
use Rattle.phys_lab.specs.Keys.{same_iface, name_on_node}
use Rattle.phys_lab.specs.declared.parts.Node.{Node}
use Rattle.phys_lab.proofs.KeptLaws.{same_iface-self, same_iface-true}
use Rattle.lab_model.specs.Shapes.{no_node, node_at}
use Rattle.lab_model.specs.Uses.{no_iface, iface_at}
use Rattle.top_text.proofs.OwnPlaces.{own_place, differ_once}
use Rattle.solution_text.specs.Solutions.{node_named, iface_on}
use Rattle.solution_text.specs.Names.{IsNode, IsIface}

pub node_own : (lab : Lab) → IsLab lab → (n : NodeId) → n.0 < length lab.nodes → node_named lab (node_at lab n).name ≡ Some n.0
node_own lab is n lt =
    let differ : AllDiffer (map (λ (n : Node). n.name) lab.nodes) = Apart-right (λ a b. a ≢ b) lab.switches (map (λ (n : Node). n.name) lab.nodes) is.devices_differ in
    ap (λ (k : List ℕ). position (λ m. same_name k m.name) lab.nodes) (sym (get_or-map (λ (m : Node). m.name) lab.nodes n.0 no_node))
    ∙ own_place same_name bytes_self bytes_turned (λ (m : Node). m.name) lab.nodes n.0 [] (differ_once same_name bytes_self bytes_turned (λ (m : Node). m.name) bytes_same lab.nodes differ) lt

pub iface_own : (lab : Lab) → IsLab lab → (i : IfaceId) → i.0 < length lab.ifaces → iface_on lab (iface_at lab i).node.0 (iface_at lab i).name ≡ Some i.0
iface_own lab is i lt =
    ap (λ (k : NodeId × List ℕ). position (λ y. same_iface k (name_on_node y)) lab.ifaces) (sym (get_or-map name_on_node lab.ifaces i.0 no_iface))
    ∙ own_place same_iface same_iface-self symm_iface name_on_node lab.ifaces i.0 (name_on_node no_iface) (differ_once same_iface same_iface-self symm_iface name_on_node same_iface-true lab.ifaces is.names_differ) lt
  where
    symm_iface : (a b : NodeId × List ℕ) → same_iface a b ≡ same_iface b a
    symm_iface a b = λ j. eqb_turned a.0.0 b.0.0 j && bytes_turned a.1 b.1 j

-- the node or the interface that has a name is the one that it names
pub node_found : (lab : Lab) → IsLab lab → (name : List ℕ) (n : ℕ) → IsNode lab.nodes name n → node_named lab name ≡ Some n
node_found lab is name n at = ap (λ (k : List ℕ). node_named lab k) (sym at.1) ∙ node_own lab is (record { 0 = n }) at.0

pub iface_found : (lab : Lab) → IsLab lab → (node : ℕ) (name : List ℕ) (i : ℕ) → IsIface lab.ifaces node name i → iface_on lab node name ≡ Some i
iface_found lab is node name i at = (λ j. iface_on lab (sym at.1 j) (sym at.2 j)) ∙ iface_own lab is (record { 0 = i }) at.0
