-- The canonical text of a lab is read as the lab.
use Rattle.std.proofs.Common.{◌≡◌, ℕ, ◌<◌, true, cond, List, [], ◌∷◌, ◌++◌, length, get_or, map, Option, Result, Ok, Err, refl, sym, ap, subst, ◌∙◌, arith, inl, inr, length-append}
use Rattle.std.specs.Prelude.{is_some}
use Rattle.std.proofs.lemmas.Bool.{and_parts}
use Rattle.lab_base.specs.Names.{is_name}
use Rattle.lab_base.specs.Lists.{Has}
use Rattle.lab_base.specs.declared.fault.Kind.{Kind}
use Rattle.lab_base.specs.declared.fault.Kind.TheVariants as kinds
use Rattle.lab_base.proofs.Members.{Has-append, Has-map, Has-right}
use Rattle.phys_lab.specs.declared.fault.LabFault.{LabFault}
use Rattle.phys_lab.specs.declared.parts.Node.{Node}
use Rattle.phys_lab.specs.declared.parts.Iface.{Iface}
use Rattle.phys_lab.specs.declared.parts.Trunk.{Trunk}
use Rattle.phys_lab.specs.Labs.{Lab}
use Rattle.phys_lab.specs.Faults.{with_switch, with_node, with_iface, with_trunk, is_port_number, is_speed}
use Rattle.phys_lab.specs.Forests.{IsWithin}
use Rattle.phys_lab.specs.Kept.{IsLab, IsWhole}
use Rattle.ptop_text.specs.declared.device.Device.{Device}
use Rattle.ptop_text.specs.declared.so_far.LabSoFar.{LabSoFar}
use Rattle.line_text.specs.Reading.{and_then}
use Rattle.ptop_text.specs.Lines.{LinkRead}
use Rattle.ptop_text.specs.Adding.{made, linked, with_range, with_device, with_link, with_iface_line, with_trunk_line, number_or_none, added, start, lab_read, lab_of_text}
use Rattle.ptop_text.specs.Canonical.{range_line, switch_line, node_line, iface_line, trunk_line, node_name, switch_name, lab_lines, canonical}
use Rattle.line_text.proofs.LinesAgain.{IsPrinted, Adds, adds_append, adds_each, read_again}
use Rattle.ptop_text.proofs.NoFault.{lab_after, no_switch_fault, no_node_fault, no_iface_fault, no_trunk_fault, at_seam}
use Rattle.ptop_text.proofs.DeviceAgain.{range_is, range_again, switch_again, node_again}
use Rattle.ptop_text.proofs.Printed.{range_printed, switch_printed, node_printed, iface_printed, trunk_printed}
use Rattle.ptop_text.proofs.LinkAgain.{switch_named, node_named, port_is, speed_is, iface_read, trunk_read}

-- the lab so far, after some of its parts
abbrev after : Lab → List (List ℕ) → List Node → List Iface → List Trunk → LabSoFar
after lab switches nodes ifaces trunks = record { lab = lab_after lab switches nodes ifaces trunks; has_range = true }

range_adds : (lab : Lab) → IsLab lab → added start (range_line lab.range) ≡ Ok (after lab [] [] [] [])
range_adds lab is =
    ap (λ (r : Result (ℕ × ℕ) Kind). and_then r (with_range start)) (range_again lab.range.0 lab.range.1 (range_is lab.range.0 lab.range.1 is.range))
    ∙ ap (λ (f : Option LabFault). cond (is_some f) (Err kinds.Range) (Ok (after lab [] [] [] []))) is.range

switch_adds : (lab : Lab) → IsLab lab → (front : List (List ℕ)) (name : List ℕ) (rest : List (List ℕ)) → front ++ name ∷ rest ≡ [] ++ lab.switches
    → added (after lab front [] [] []) (switch_line name) ≡ Ok (after lab (front ++ name ∷ []) [] [] [])
switch_adds lab is front name rest e =
    let named : is_name name ≡ true = is.switches name (subst (λ l. Has l name) e (Has-right front (name ∷ rest) name (inl refl))) in
    ap (λ (r : Result Device Kind). and_then r (with_device (after lab front [] [] []))) (switch_again name named)
    ∙ ap (made (after lab front [] [] []) (with_switch (lab_after lab front [] [] []) name)) (no_switch_fault lab front name rest is e)

node_adds : (lab : Lab) → IsLab lab → (front : List Node) (node : Node) (rest : List Node) → front ++ node ∷ rest ≡ [] ++ lab.nodes
    → added (after lab lab.switches front [] []) (node_line node) ≡ Ok (after lab lab.switches (front ++ node ∷ []) [] [])
node_adds lab is front node rest e =
    let whole : IsWhole node = is.nodes node (subst (λ l. Has l node) e (Has-right front (node ∷ rest) node (inl refl))) in
    ap (λ (r : Result Device Kind). and_then r (with_device (after lab lab.switches front [] []))) (node_again node whole)
    ∙ ap (made (after lab lab.switches front [] []) (with_node (lab_after lab lab.switches front [] []) node)) (no_node_fault lab front node rest is e)

iface_adds : (lab : Lab) → IsLab lab → (front : List Iface) (iface : Iface) (rest : List Iface) → front ++ iface ∷ rest ≡ [] ++ lab.ifaces
    → added (after lab lab.switches lab.nodes front []) (iface_line lab iface) ≡ Ok (after lab lab.switches lab.nodes (front ++ iface ∷ []) [])
iface_adds lab is front iface rest e =
    let here : length front < length lab.ifaces = omega (arith, ap length e, length-append front (iface ∷ rest)) in
    let at : get_or lab.ifaces (length front) iface ≡ iface = ap (λ (l : List Iface). get_or l (length front) iface) (sym e) ∙ at_seam front iface rest iface in
    let switch : iface.switch.0 < length lab.switches = subst (λ (i : Iface). i.switch.0 < length lab.switches) at (is.linked.switches (length front) iface here) in
    let node : iface.node.0 < length lab.nodes = subst (λ (i : Iface). i.node.0 < length lab.nodes) at (is.linked.nodes (length front) iface here) in
    let p = and_parts _ _ (is.ifaces iface (subst (λ l. Has l iface) e (Has-right front (iface ∷ rest) iface (inl refl)))) in
    let names = and_parts _ _ p.0 in
    let sizes = and_parts (is_port_number iface.port) (is_speed iface.kbps) p.1 in
    let so_far = after lab lab.switches lab.nodes front [] in
    let node_is = node_named lab iface.node.0 is node in
    let switch_is = switch_named lab iface.switch.0 is switch in
    let node_text = node_name lab iface.node.0 in
    let switch_text = switch_name lab iface.switch in
    ap (λ (r : Result LinkRead Kind). and_then r (with_link so_far)) (iface_read so_far.lab iface.node.0 iface.switch.0 iface.link node_text iface.name switch_text iface.port iface.kbps names.0 (record { named = node_is.named; at = node_is.at; no_switch = node_is.no_switch }) names.1 (record { named = switch_is.named; at = switch_is.at }) (port_is iface.port sizes.0) (speed_is iface.kbps sizes.1))
    ∙ (λ j. with_iface_line so_far node_text switch_text (record { link = iface.link; node = record { 0 = number_or_none (node_is.at j) }; name = iface.name; switch = record { 0 = number_or_none (switch_is.at j) }; port = iface.port; kbps = iface.kbps }))
    ∙ ap (linked so_far node_text switch_text (with_iface so_far.lab iface)) (no_iface_fault lab front iface rest is e)

trunk_adds : (lab : Lab) → IsLab lab → (front : List Trunk) (trunk : Trunk) (rest : List Trunk) → front ++ trunk ∷ rest ≡ [] ++ lab.trunks
    → added (after lab lab.switches lab.nodes lab.ifaces front) (trunk_line lab trunk) ≡ Ok (after lab lab.switches lab.nodes lab.ifaces (front ++ trunk ∷ []))
trunk_adds lab is front trunk rest e =
    let here : length front < length lab.trunks = omega (arith, ap length e, length-append front (trunk ∷ rest)) in
    let at : get_or lab.trunks (length front) trunk ≡ trunk = ap (λ (l : List Trunk). get_or l (length front) trunk) (sym e) ∙ at_seam front trunk rest trunk in
    let within : IsWithin (length lab.switches) trunk = subst (IsWithin (length lab.switches)) at (is.linked.trunks (length front) trunk here) in
    let p = and_parts _ _ (is.trunks trunk (subst (λ l. Has l trunk) e (Has-right front (trunk ∷ rest) trunk (inl refl)))) in
    let q = and_parts (is_port_number trunk.first.1) _ p.1 in
    let r = and_parts (is_port_number trunk.second.1) (is_speed trunk.kbps) q.1 in
    let so_far = after lab lab.switches lab.nodes lab.ifaces front in
    let first = switch_named lab trunk.first.0.0 is within.0 in
    let second = switch_named lab trunk.second.0.0 is within.1 in
    let first_text = switch_name lab trunk.first.0 in
    let second_text = switch_name lab trunk.second.0 in
    ap (λ (r : Result LinkRead Kind). and_then r (with_link so_far)) (trunk_read so_far.lab trunk.first.0.0 trunk.second.0.0 trunk.link first_text trunk.first.1 second_text trunk.second.1 trunk.kbps p.0 (record { named = first.named; at = first.at }) (port_is trunk.first.1 q.0) (record { named = second.named; at = second.at }) (port_is trunk.second.1 r.0) (speed_is trunk.kbps r.1))
    ∙ (λ j. with_trunk_line so_far first_text second_text (record { link = trunk.link; first = (record { 0 = number_or_none (first.at j) }, trunk.first.1); second = (record { 0 = number_or_none (second.at j) }, trunk.second.1); kbps = trunk.kbps }))
    ∙ ap (linked so_far first_text second_text (with_trunk so_far.lab trunk)) (no_trunk_fault lab front trunk rest is e)

lab_adds : (lab : Lab) → IsLab lab → Adds added start (lab_lines lab) (record { lab = lab; has_range = true })
lab_adds lab is = (
  after lab [] [] [] [],
  range_adds lab is,
  adds_append added (after lab [] [] [] []) (after lab lab.switches lab.nodes lab.ifaces []) (after lab lab.switches lab.nodes lab.ifaces lab.trunks) _ (map (trunk_line lab) lab.trunks)
      (adds_append added (after lab [] [] [] []) (after lab lab.switches lab.nodes [] []) (after lab lab.switches lab.nodes lab.ifaces []) _ (map (iface_line lab) lab.ifaces)
      (adds_append added (after lab [] [] [] []) (after lab lab.switches [] [] []) (after lab lab.switches lab.nodes [] []) (map switch_line lab.switches) (map node_line lab.nodes)
      (adds_each added switch_line (λ l. after lab l [] [] []) [] lab.switches (switch_adds lab is))
      (adds_each added node_line (λ l. after lab lab.switches l [] []) [] lab.nodes (node_adds lab is)))
      (adds_each added (iface_line lab) (λ l. after lab lab.switches lab.nodes l []) [] lab.ifaces (iface_adds lab is)))
      (adds_each added (trunk_line lab) (λ l. after lab lab.switches lab.nodes lab.ifaces l) [] lab.trunks (trunk_adds lab is)),
)

lab_printed : (lab : Lab) → IsLab lab → (line : List (List ℕ)) → Has (lab_lines lab) line → IsPrinted line
lab_printed lab is line (inl e) = subst IsPrinted e (range_printed lab is)
lab_printed lab is line (inr h) = elim (Has-append ((map switch_line lab.switches ++ map node_line lab.nodes) ++ map (iface_line lab) lab.ifaces) (map (trunk_line lab) lab.trunks) line h) [
  | inl a ↦ elim (Has-append (map switch_line lab.switches ++ map node_line lab.nodes) (map (iface_line lab) lab.ifaces) line a) [
    | inl b ↦ elim (Has-append (map switch_line lab.switches) (map node_line lab.nodes) line b) [
      | inl d ↦ let at = Has-map switch_line lab.switches line d in subst IsPrinted at.2 (switch_printed at.0 (is.switches at.0 at.1))
      | inr d ↦ let at = Has-map node_line lab.nodes line d in subst IsPrinted at.2 (node_printed at.0 (is.nodes at.0 at.1))
    ]
    | inr b ↦ let at = Has-map (iface_line lab) lab.ifaces line b in subst IsPrinted at.2 (iface_printed lab is at.0 at.1)
  ]
  | inr a ↦ let at = Has-map (trunk_line lab) lab.trunks line a in subst IsPrinted at.2 (trunk_printed lab is at.0 at.1)
]

-- WHAT IS PRINTED IS READ AS THE LAB
pub canonical_again : (lab : Lab) → IsLab lab → lab_of_text (canonical lab) ≡ Ok lab
canonical_again lab is = ap lab_read (read_again added 1 start (record { lab = lab; has_range = true }) (lab_lines lab) (lab_printed lab is) (lab_adds lab is))
