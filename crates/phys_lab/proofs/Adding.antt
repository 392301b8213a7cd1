-- A part without a fault, added to a lab, keeps what holds of every lab.
use Rattle.std.proofs.Common.{◌≡◌, ℕ, ◌+◌, ◌<◌, ◌≤◌, Bool, true, false, cond, eqb, List, [], ◌∷◌, ◌++◌, length, map, count_by, None, refl, sym, subst, ◌∙◌, arith, inl, inr, length-append}
use Rattle.std.specs.List.{list_any, flat_map}
use Rattle.std.proofs.lemmas.Bool.{cases_eq, ltb-false, ne_eqb, or_parts, not-false}
use Rattle.std.proofs.lemmas.List.{append_assoc, map-append}
use Rattle.std.proofs.lemmas.List.Sums.{sum_by-append, sum_by-cons}
use Rattle.std.proofs.lemmas.Grind.{flat_map-append}
use Rattle.lab_base.specs.Names.{is_name, same_name}
use Rattle.lab_base.specs.Lists.{Has, AllDiffer}
use Rattle.lab_base.proofs.Members.{Has-append}
use Rattle.lab_base.proofs.Bytes.{bytes_self}
use Rattle.phys_lab.specs.declared.fault.LabFault.TheVariants as faults
use Rattle.phys_lab.specs.declared.parts.Node.{Node}
use Rattle.phys_lab.specs.declared.parts.Iface.{Iface}
use Rattle.phys_lab.specs.declared.parts.Trunk.{Trunk}
use Rattle.phys_lab.specs.Labs.{Lab}
use Rattle.phys_lab.specs.Keys.{same_iface, same_port, name_on_node, port_of, ports_of}
use Rattle.phys_lab.specs.Faults.{range_fault, switch_fault, node_fault, iface_fault, trunk_fault, is_device, is_iface, is_trunk, ifaces_of, empty_lab, with_switch, with_node, with_iface, with_trunk}
use Rattle.phys_lab.specs.Tables.{IsLinked}
use Rattle.phys_lab.specs.Kept.{IsWhole, IsLab}
use Rattle.phys_lab.proofs.FaultLaws.{passes, switch_passes, node_passes, iface_passes, trunk_passes, second_is_free}
use Rattle.phys_lab.proofs.ForestKept.{forest_push}
use Rattle.phys_lab.proofs.KeptLaws.{insert, at_end, none_has, same_iface-self, same_port-self}

pub each_push : {X : Type 0} (P : X → Type 0) (xs : List X) (x : X) → ((y : X) → Has xs y → P y) → P x → (y : X) → Has (xs ++ x ∷ []) y → P y
each_push P xs x all one y h = elim (Has-append xs (x ∷ []) y h) [ inl a ↦ all y a | inr b ↦ elim b [ inl e ↦ subst P e one | inr d ↦ absurd d ] ]

-- after the second of two lists
pub at_second : {X : Type 0} (xs ys : List X) (x : X) → AllDiffer (xs ++ ys) → (Has xs x → ⊥) → (Has ys x → ⊥) → AllDiffer (xs ++ (ys ++ x ∷ []))
at_second xs ys x differ one two =
    subst (λ l. AllDiffer l) (append_assoc xs ys (x ∷ []))
    (at_end (xs ++ ys) x differ (λ h. elim (Has-append xs ys x h) [ inl a ↦ one a | inr b ↦ two b ]))

no_name : (names : List (List ℕ)) (name : List ℕ) → list_any (same_name name) names ≡ false → Has names name → ⊥
no_name names name = none_has same_name bytes_self names name

pub empty_kept : (first last : ℕ) → range_fault first last ≡ None → IsLab (empty_lab first last)
empty_kept first last range = record {
  range = range;
  switches = λ x h. absurd h;
  nodes = λ x h. absurd h;
  ifaces = λ x h. absurd h;
  trunks = λ x h. absurd h;
  linked = record { trunks = λ k d lt. absurd (omega arith); switches = λ k d lt. absurd (omega arith); nodes = λ k d lt. absurd (omega arith) };
  devices_differ = tt;
  links_differ = tt;
  names_differ = tt;
  ports_differ = tt;
  few_switches = omega arith;
  few_nodes = omega arith;
  few_ifaces = λ n. omega arith;
  forest = λ n lt. absurd (omega arith);
}

pub range_kept : (lab : Lab) (first last : ℕ) → range_fault first last ≡ None → IsLab lab → IsLab (record lab { range = (first, last) })
range_kept lab first last range is = record {
  range = range;
  switches = is.switches;
  nodes = is.nodes;
  ifaces = is.ifaces;
  trunks = is.trunks;
  linked = record { trunks = is.linked.trunks; switches = is.linked.switches; nodes = is.linked.nodes };
  devices_differ = is.devices_differ;
  links_differ = is.links_differ;
  names_differ = is.names_differ;
  ports_differ = is.ports_differ;
  few_switches = is.few_switches;
  few_nodes = is.few_nodes;
  few_ifaces = is.few_ifaces;
  forest = is.forest;
}

pub switch_kept : (lab : Lab) (name : List ℕ) → is_name name ≡ true → switch_fault lab name ≡ None → IsLinked (with_switch lab name) → IsLab lab → IsLab (with_switch lab name)
switch_kept lab name named none linked is =
    let a = passes (is_device lab name) faults.Twice _ none in
    let other = or_parts _ _ a.0 in
    let few = switch_passes lab name none in
    record {
      range = is.range;
      switches = each_push (λ n. is_name n ≡ true) lab.switches name is.switches named;
      nodes = is.nodes;
      ifaces = is.ifaces;
      trunks = is.trunks;
      linked = linked;
      devices_differ = insert lab.switches (map (λ node. node.name) lab.nodes) name is.devices_differ (no_name _ name other.0) (no_name _ name other.1);
      links_differ = is.links_differ;
      names_differ = is.names_differ;
      ports_differ = is.ports_differ;
      few_switches = omega (arith, few, length-append lab.switches (name ∷ []));
      few_nodes = is.few_nodes;
      few_ifaces = is.few_ifaces;
      forest = is.forest;
    }

node_whole : (lab : Lab) (node : Node) → node_fault lab node ≡ None → IsWhole node
node_whole lab node none =
    let a = passes _ faults.Range _ none in
    let b = passes _ faults.Twice _ a.1 in
    let d = passes _ faults.Limit _ b.1 in
    let many = or_parts _ _ (or_parts _ _ d.0).1 in
    record { ranges = not-false _ a.0; differ = (or_parts _ _ b.0).1; few_types = ltb-false 8 (length node.types) many.0; few_features = ltb-false 8 (length node.features) many.1 }

pub node_kept : (lab : Lab) (node : Node) → node_fault lab node ≡ None → IsLinked (with_node lab node) → IsLab lab → IsLab (with_node lab node)
node_kept lab node none linked is =
    let a = passes _ faults.Range _ none in
    let b = passes _ faults.Twice _ a.1 in
    let other = or_parts _ _ (or_parts _ _ b.0).0 in
    let few = node_passes lab node none in
    record {
      range = is.range;
      switches = is.switches;
      nodes = each_push IsWhole lab.nodes node is.nodes (node_whole lab node none);
      ifaces = is.ifaces;
      trunks = is.trunks;
      linked = linked;
      devices_differ =
          subst (λ l. AllDiffer (lab.switches ++ l)) (sym (map-append (λ (n : Node). n.name) lab.nodes (node ∷ [])))
          (at_second lab.switches (map (λ n. n.name) lab.nodes) node.name is.devices_differ (no_name _ node.name other.0) (no_name _ node.name other.1));
      links_differ = is.links_differ;
      names_differ = is.names_differ;
      ports_differ = is.ports_differ;
      few_switches = is.few_switches;
      few_nodes = omega (arith, few, length-append lab.nodes (node ∷ []));
      few_ifaces = is.few_ifaces;
      forest = is.forest;
    }

abbrev counts_one : ℕ → Iface → ℕ
counts_one n iface = cond (eqb iface.node.0 n) 1 0

pub iface_kept : (lab : Lab) (iface : Iface) → iface_fault lab iface ≡ None → IsLinked (with_iface lab iface) → IsLab lab → IsLab (with_iface lab iface)
iface_kept lab iface none linked is =
    let a = passes _ faults.Range _ none in
    let b = passes _ faults.Twice _ a.1 in
    let d = passes _ faults.Unknown _ b.1 in
    let e = passes _ faults.PortTaken _ d.1 in
    let links = or_parts _ _ (or_parts _ _ b.0).0 in
    let ports = or_parts _ _ e.0 in
    let ok = iface_passes lab iface none in
    record {
      range = is.range;
      switches = is.switches;
      nodes = is.nodes;
      ifaces = each_push (λ i. is_iface i ≡ true) lab.ifaces iface is.ifaces (not-false _ a.0);
      trunks = is.trunks;
      linked = linked;
      devices_differ = is.devices_differ;
      links_differ =
          subst (λ l. AllDiffer (l ++ map (λ t. t.link) lab.trunks)) (sym (map-append (λ (i : Iface). i.link) lab.ifaces (iface ∷ [])))
          (insert (map (λ i. i.link) lab.ifaces) (map (λ t. t.link) lab.trunks) iface.link is.links_differ (no_name _ iface.link links.0) (no_name _ iface.link links.1));
      names_differ =
          subst (λ l. AllDiffer l) (sym (map-append name_on_node lab.ifaces (iface ∷ [])))
          (at_end (map name_on_node lab.ifaces) (name_on_node iface) is.names_differ (none_has same_iface same_iface-self (map name_on_node lab.ifaces) (name_on_node iface) ok.name));
      ports_differ =
          subst (λ l. AllDiffer (l ++ flat_map ports_of lab.trunks)) (sym (map-append port_of lab.ifaces (iface ∷ [])))
          (insert (map port_of lab.ifaces) (flat_map ports_of lab.trunks) (port_of iface) is.ports_differ (none_has same_port same_port-self _ (port_of iface) ports.0) (none_has same_port same_port-self _ (port_of iface) ports.1));
      few_switches = is.few_switches;
      few_nodes = is.few_nodes;
      few_ifaces = few;
      forest = is.forest;
    }
  where
    few : (n : ℕ) → ifaces_of (with_iface lab iface) n ≤ 16
    few n =
        let ok = iface_passes lab iface none in
        let more : ifaces_of (with_iface lab iface) n ≡ ifaces_of lab n + count_by (λ i. eqb i.node.0 n) (iface ∷ []) = sum_by-append (counts_one n) lab.ifaces (iface ∷ []) in
        let last : count_by (λ i. eqb i.node.0 n) (iface ∷ []) ≡ counts_one n iface + 0 = sum_by-cons (counts_one n) iface [] in
        elim (cases_eq iface.node.0 n) [
          | inl same ↦
              let one : counts_one n iface ≤ 1 = at_most_one (eqb iface.node.0 n) in
              let old : ifaces_of lab n < 16 = subst (λ (k : ℕ). ifaces_of lab k < 16) same ok.few in
              omega (arith, more, last, one, old)
          | inr other ↦
              let zero_more : counts_one n iface ≡ 0 = rw (ne_eqb iface.node.0 n other) refl in
              omega (arith, more, last, zero_more, is.few_ifaces n)
        ]
      where
        at_most_one : (b : Bool) → cond b 1 0 ≤ 1
        at_most_one true = omega arith
        at_most_one false = omega arith

pub trunk_kept : (lab : Lab) (trunk : Trunk) → trunk_fault lab trunk ≡ None → IsLinked (with_trunk lab trunk) → IsLab lab → IsLab (with_trunk lab trunk)
trunk_kept lab trunk none linked is =
    let a = passes _ faults.Range _ none in
    let b = passes _ faults.Twice _ a.1 in
    let links = or_parts _ _ b.0 in
    let ok = trunk_passes lab trunk none in
    let first = or_parts _ _ ok.first in
    let second = or_parts _ _ ok.second in
    let one : AllDiffer (map port_of lab.ifaces ++ (flat_map ports_of lab.trunks ++ trunk.first ∷ [])) =
    at_second (map port_of lab.ifaces) (flat_map ports_of lab.trunks) trunk.first is.ports_differ (none_has same_port same_port-self _ trunk.first first.0) (none_has same_port same_port-self _ trunk.first first.1) in
    let two : AllDiffer (map port_of lab.ifaces ++ ((flat_map ports_of lab.trunks ++ trunk.first ∷ []) ++ trunk.second ∷ [])) =
    at_second (map port_of lab.ifaces) (flat_map ports_of lab.trunks ++ trunk.first ∷ []) trunk.second one (none_has same_port same_port-self _ trunk.second second.0) (none_has same_port same_port-self _ trunk.second (second_is_free lab trunk ok)) in
    let ports : (flat_map ports_of lab.trunks ++ trunk.first ∷ []) ++ trunk.second ∷ [] ≡ flat_map ports_of (lab.trunks ++ trunk ∷ []) =
    append_assoc (flat_map ports_of lab.trunks) (trunk.first ∷ []) (trunk.second ∷ []) ∙ sym (flat_map-append ports_of lab.trunks (trunk ∷ [])) in
    record {
      range = is.range;
      switches = is.switches;
      nodes = is.nodes;
      ifaces = is.ifaces;
      trunks = each_push (λ t. is_trunk t ≡ true) lab.trunks trunk is.trunks (not-false _ a.0);
      linked = linked;
      devices_differ = is.devices_differ;
      links_differ =
          subst (λ l. AllDiffer (map (λ i. i.link) lab.ifaces ++ l)) (sym (map-append (λ (t : Trunk). t.link) lab.trunks (trunk ∷ [])))
          (at_second (map (λ i. i.link) lab.ifaces) (map (λ t. t.link) lab.trunks) trunk.link is.links_differ (no_name _ trunk.link links.0) (no_name _ trunk.link links.1));
      names_differ = is.names_differ;
      ports_differ = subst (λ l. AllDiffer (map port_of lab.ifaces ++ l)) ports two;
      few_switches = is.few_switches;
      few_nodes = is.few_nodes;
      few_ifaces = is.few_ifaces;
      forest = forest_push lab.trunks trunk is.forest ok.apart;
    }
