-- Facts of labs: a port is of one interface or one trunk's end, and an interface has one name on its node.
use Rattle.std.specs.List.{flat_map}
use Rattle.std.proofs.Common.{◌≡◌, ◌≢◌, inl, inr, ℕ, ◌<◌, List, [], map, length, get_or, refl, sym, ◌∙◌, arith}
use Rattle.std.proofs.lemmas.List.{get_or-map, length-map}
use Rattle.lab_base.specs.Lists.{Has, AllDiffer}
use Rattle.lab_base.specs.declared.ids.IfaceId.{IfaceId}
use Rattle.lab_base.specs.declared.ids.SwitchId.{SwitchId}
use Rattle.lab_base.proofs.Members.{Has-mapped, Has-flat_mapped, Apart-left, Apart-right, Apart-across, differ_at, Has-get_or}
use Rattle.phys_lab.specs.Labs.{Lab}
use Rattle.phys_lab.specs.Kept.{IsLab}
use Rattle.phys_lab.specs.Keys.{name_on_node, port_of, ports_of}
use Rattle.phys_lab.specs.Forests.{IsWithin}
use Rattle.phys_lab.specs.declared.parts.Trunk.{Trunk}
use Rattle.lab_model.specs.Uses.{no_iface, iface_at}
use Rattle.lab_model.specs.Shapes.{no_node}
use Rattle.lab_model.specs.Wants.{switch_name, node_name}
use Rattle.lab_model.proofs.WiringLaws.{All-has}

-- mapped to values that differ
differ_map : {X Y : Type 0} (f : X → Y) (xs : List X) (i j : ℕ) (d : X) → AllDiffer (map f xs) → i < length xs → j < length xs → f (get_or xs i d) ≡ f (get_or xs j d) → i ≡ j
differ_map f xs i j d all h g e =
    differ_at (map f xs) i j (f d) all (omega (arith, h, length-map xs f)) (omega (arith, g, length-map xs f)) (get_or-map f xs i d (f d) h ∙ e ∙ sym (get_or-map f xs j d (f d) g))

one_switch : (lab : Lab) → IsLab lab → (a b : ℕ) → a < length lab.switches → b < length lab.switches → switch_name lab a ≡ switch_name lab b → a ≡ b
one_switch lab is a b h g e = differ_at lab.switches a b [] (Apart-left (λ x y. x ≢ y) lab.switches (map (λ node. node.name) lab.nodes) is.devices_differ) h g e

-- a port is of one interface
pub one_port : (lab : Lab) → IsLab lab → (i j : IfaceId) → i.0 < length lab.ifaces → j.0 < length lab.ifaces → switch_name lab (iface_at lab i).switch.0 ≡ switch_name lab (iface_at lab j).switch.0 → (iface_at lab i).port ≡ (iface_at lab j).port → i.0 ≡ j.0
one_port lab is i j h g switches ports =
    let same = one_switch lab is _ _ (is.linked.switches i.0 no_iface h) (is.linked.switches j.0 no_iface g) switches in
    differ_map port_of lab.ifaces i.0 j.0 no_iface (Apart-left (λ x y. x ≢ y) (map port_of lab.ifaces) (flat_map ports_of lab.trunks) is.ports_differ) h g
    (λ k. (record { 0 = same k }, ports k))

-- and not of a trunk
pub no_trunk_port : (lab : Lab) → IsLab lab → (i : IfaceId) (t : Trunk) → i.0 < length lab.ifaces → Has lab.trunks t → (switch_name lab (iface_at lab i).switch.0 ≡ switch_name lab t.first.0.0 → (iface_at lab i).port ≢ t.first.1) × (switch_name lab (iface_at lab i).switch.0 ≡ switch_name lab t.second.0.0 → (iface_at lab i).port ≢ t.second.1)
no_trunk_port lab is i t h in_lab = (
  λ switches ports. let same = one_switch lab is _ _ (is.linked.switches i.0 no_iface h) within.0 switches in apart t.first (inl refl) (λ k. (record { 0 = same k }, ports k)),
  λ switches ports. let same = one_switch lab is _ _ (is.linked.switches i.0 no_iface h) within.1 switches in apart t.second (inr (inl refl)) (λ k. (record { 0 = same k }, ports k)),
)
  where
    within : IsWithin (length lab.switches) t
    within = All-has (IsWithin (length lab.switches)) lab.trunks t is.linked.trunks in_lab

    apart : (port : SwitchId × ℕ) → Has (ports_of t) port → port_of (iface_at lab i) ≢ port
    apart port end = Apart-across (λ x y. x ≢ y) (map port_of lab.ifaces) (flat_map ports_of lab.trunks) (port_of (iface_at lab i)) port is.ports_differ
        (Has-mapped port_of lab.ifaces (iface_at lab i) (Has-get_or lab.ifaces i.0 no_iface h)) (Has-flat_mapped ports_of lab.trunks t port in_lab end)

-- an interface has one name on its node
pub one_name : (lab : Lab) → IsLab lab → (i j : IfaceId) → i.0 < length lab.ifaces → j.0 < length lab.ifaces → node_name lab (iface_at lab i).node ≡ node_name lab (iface_at lab j).node → (iface_at lab i).name ≡ (iface_at lab j).name → i.0 ≡ j.0
one_name lab is i j h g nodes names =
    let same = differ_map (λ n. n.name) lab.nodes _ _ no_node (Apart-right (λ x y. x ≢ y) lab.switches (map (λ node. node.name) lab.nodes) is.devices_differ) (is.linked.nodes i.0 no_iface h) (is.linked.nodes j.0 no_iface g) nodes in
    differ_map name_on_node lab.ifaces i.0 j.0 no_iface is.names_differ h g (λ k. (record { 0 = same k }, names k))
