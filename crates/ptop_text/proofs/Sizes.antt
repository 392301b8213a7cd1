-- How long the canonical text of a lab is.
use Rattle.std.proofs.Common.{◌≡◌, ℕ, ◌+◌, ◌*◌, ◌<◌, ◌≤◌, true, not, eqb, List, [], ◌∷◌, ◌++◌, length, map, ap, ◌∙◌, arith, length-append}
use Rattle.std.specs.Prelude.{codes, decimal, nat_le}
use Rattle.std.specs.List.{list_all}
use Rattle.std.proofs.lemmas.Bool.{and_parts, leb-true}
use Rattle.std.proofs.lemmas.Fmt.{length-decimal-le}
use Rattle.std.proofs.lemmas.Grind.{flat_map-append}
use Rattle.lab_base.specs.Names.{is_name}
use Rattle.lab_base.specs.Lists.{Has}
use Rattle.lab_base.proofs.Names.{name_short}
use Rattle.phys_lab.specs.declared.parts.Node.{Node}
use Rattle.phys_lab.specs.declared.parts.Iface.{Iface}
use Rattle.phys_lab.specs.declared.parts.Trunk.{Trunk}
use Rattle.phys_lab.specs.Labs.{Lab}
use Rattle.phys_lab.specs.Forests.{IsWithin}
use Rattle.phys_lab.specs.Faults.{is_type, is_feature, is_port_number, is_speed}
use Rattle.phys_lab.specs.Kept.{IsLab, IsWhole}
use Rattle.phys_lab.proofs.TrunkCount.{few_trunks}
use Rattle.phys_lab.proofs.IfaceCount.{few_ifaces}
use Rattle.ptop_text.specs.Canonical.{feature_fields, range_line, switch_line, node_line, iface_line, trunk_line, node_name, switch_name, canonical}
use Rattle.line_text.specs.Printing.{line_text, text_of, with_number}
use Rattle.line_text.proofs.PartsAgain.{all_has}
use Rattle.line_text.proofs.Widths.{width, width-append, line_length, lines_length, pairs_width, pair_length}
use Rattle.ptop_text.proofs.DeviceAgain.{range_is, type_is}
use Rattle.ptop_text.proofs.LinkAgain.{switch_named, node_named, port_is, speed_is}
use Rattle.ptop_text.proofs.Printed.{at}

range_length : (lab : Lab) → IsLab lab → length (line_text (range_line lab.range)) ≤ 16
unfolding width
range_length lab is =
    let range = range_is lab.range.0 lab.range.1 is.range in
    let one : length (decimal lab.range.0) ≤ 4 = length-decimal-le 4 lab.range.0 (omega arith) (omega (arith, range.order, range.high)) (omega (arith, range.order, range.high)) in
    let two : length (decimal lab.range.1) ≤ 4 = length-decimal-le 4 lab.range.1 (omega arith) (omega (arith, range.high)) (omega (arith, range.high)) in
    omega (arith, line_length (codes "vlans") (decimal lab.range.0 ∷ decimal lab.range.1 ∷ []), one, two)

switch_length : (name : List ℕ) → is_name name ≡ true → length (line_text (switch_line name)) ≤ 45
unfolding width
switch_length name named = omega (arith, line_length (codes "node") (name ∷ codes "switch" ∷ []), name_short name named)

features_width : (features : List (List ℕ × ℕ)) → ((pair : List ℕ × ℕ) → Has features pair → 1 + length (with_number pair) ≤ 41) → width (feature_fields features) ≤ 2 + 41 * length features
unfolding width
features_width [] each = omega arith
features_width (x ∷ features) each = let rest = pairs_width 41 (x ∷ features) each in omega (arith, rest)

node_length : (node : Node) → IsWhole node → length (line_text (node_line node)) ≤ 672
unfolding width
node_length node is =
    let p = and_parts (is_name node.name) _ is.ranges in
    let q = and_parts (not (eqb (length node.types) 0)) _ p.1 in
    let r = and_parts (list_all is_type node.types) (list_all is_feature node.features) q.1 in
    let types : width (map with_number node.types) ≤ 38 * length node.types = pairs_width 38 node.types (λ t h.
    let kind = type_is t (all_has is_type node.types r.0 t h) in
    let long = pair_length t.0 t.1 4 kind.named (omega arith) (omega (arith, kind.high)) (omega (arith, kind.high)) in
    omega (arith, long)) in
    let features : width (feature_fields node.features) ≤ 2 + 41 * length node.features = features_width node.features (λ t h.
    let w = and_parts (is_name t.0) (nat_le t.1 1000000) (all_has is_feature node.features r.1 t h) in
    let low : t.1 ≤ 1000000 = leb-true t.1 1000000 w.1 in
    let long = pair_length t.0 t.1 7 w.0 (omega arith) (omega (arith, low)) (omega (arith, low)) in
    omega (arith, long)) in
    omega (arith, line_length (codes "node") (node.name ∷ map with_number node.types ++ feature_fields node.features), width-append (map with_number node.types) (feature_fields node.features), types, features, name_short node.name p.0, is.few_types, is.few_features)

iface_length : (lab : Lab) → IsLab lab → (iface : Iface) → Has lab.ifaces iface → length (line_text (iface_line lab iface)) ≤ 153
unfolding width
iface_length lab is iface there =
    let p = and_parts _ _ (is.ifaces iface there) in
    let names = and_parts _ _ p.0 in
    let sizes = and_parts (is_port_number iface.port) (is_speed iface.kbps) p.1 in
    let port = port_is iface.port sizes.0 in
    let speed = speed_is iface.kbps sizes.1 in
    let node_is = node_named lab iface.node.0 is (at (λ i. i.node.0 < length lab.nodes) lab.ifaces is.linked.nodes iface there) in
    let switch_is = switch_named lab iface.switch.0 is (at (λ i. i.switch.0 < length lab.switches) lab.ifaces is.linked.switches iface there) in
    let node = node_name lab iface.node.0 in
    let switch = switch_name lab iface.switch in
    let first : length (node ++ 58 ∷ iface.name) ≡ length node + length (58 ∷ iface.name) = length-append node (58 ∷ iface.name) in
    let second : length (with_number (switch, iface.port)) ≤ 37 = pair_length switch iface.port 4 switch_is.named (omega arith) (omega (arith, port.high)) (omega (arith, port.high)) in
    let kbps : length (decimal iface.kbps) ≤ 10 = length-decimal-le 10 iface.kbps (omega arith) (omega (arith, speed.high)) (omega (arith, speed.high)) in
    omega (arith, line_length (codes "link") (iface.link ∷ (node ++ 58 ∷ iface.name) ∷ with_number (switch, iface.port) ∷ decimal iface.kbps ∷ []), first, second, kbps, name_short iface.link names.0, name_short iface.name names.1, name_short node node_is.named)

trunk_length : (lab : Lab) → IsLab lab → (trunk : Trunk) → Has lab.trunks trunk → length (line_text (trunk_line lab trunk)) ≤ 125
unfolding width
trunk_length lab is trunk there =
    let within = at (IsWithin (length lab.switches)) lab.trunks is.linked.trunks trunk there in
    let p = and_parts _ _ (is.trunks trunk there) in
    let q = and_parts (is_port_number trunk.first.1) _ p.1 in
    let r = and_parts (is_port_number trunk.second.1) (is_speed trunk.kbps) q.1 in
    let one = port_is trunk.first.1 q.0 in
    let two = port_is trunk.second.1 r.0 in
    let speed = speed_is trunk.kbps r.1 in
    let from = switch_named lab trunk.first.0.0 is within.0 in
    let to = switch_named lab trunk.second.0.0 is within.1 in
    let first : length (with_number (switch_name lab trunk.first.0, trunk.first.1)) ≤ 37 = pair_length (switch_name lab trunk.first.0) trunk.first.1 4 from.named (omega arith) (omega (arith, one.high)) (omega (arith, one.high)) in
    let second : length (with_number (switch_name lab trunk.second.0, trunk.second.1)) ≤ 37 = pair_length (switch_name lab trunk.second.0) trunk.second.1 4 to.named (omega arith) (omega (arith, two.high)) (omega (arith, two.high)) in
    let kbps : length (decimal trunk.kbps) ≤ 10 = length-decimal-le 10 trunk.kbps (omega arith) (omega (arith, speed.high)) (omega (arith, speed.high)) in
    omega (arith, line_length (codes "link") (trunk.link ∷ with_number (switch_name lab trunk.first.0, trunk.first.1) ∷ with_number (switch_name lab trunk.second.0, trunk.second.1) ∷ decimal trunk.kbps ∷ []), first, second, kbps, name_short trunk.link p.0)

-- THE TEXT
pub canonical_length : (lab : Lab) → IsLab lab → length (canonical lab) ≤ 16777216
canonical_length lab is =
    let switches : length (text_of (map switch_line lab.switches)) ≤ 45 * length lab.switches = lines_length switch_line 45 lab.switches (λ x h. switch_length x (is.switches x h)) in
    let nodes : length (text_of (map node_line lab.nodes)) ≤ 672 * length lab.nodes = lines_length node_line 672 lab.nodes (λ x h. node_length x (is.nodes x h)) in
    let ifaces : length (text_of (map (iface_line lab) lab.ifaces)) ≤ 153 * length lab.ifaces = lines_length (iface_line lab) 153 lab.ifaces (iface_length lab is) in
    let trunks : length (text_of (map (trunk_line lab) lab.trunks)) ≤ 125 * length lab.trunks = lines_length (trunk_line lab) 125 lab.trunks (trunk_length lab is) in
    let a = flat_map-append line_text ((map switch_line lab.switches ++ map node_line lab.nodes) ++ map (iface_line lab) lab.ifaces) (map (trunk_line lab) lab.trunks) in
    let b = flat_map-append line_text (map switch_line lab.switches ++ map node_line lab.nodes) (map (iface_line lab) lab.ifaces) in
    let d = flat_map-append line_text (map switch_line lab.switches) (map node_line lab.nodes) in
    let one : length (text_of (map switch_line lab.switches ++ map node_line lab.nodes)) ≡ length (text_of (map switch_line lab.switches)) + length (text_of (map node_line lab.nodes)) =
    ap length d ∙ length-append (text_of (map switch_line lab.switches)) (text_of (map node_line lab.nodes)) in
    let two : length (text_of ((map switch_line lab.switches ++ map node_line lab.nodes) ++ map (iface_line lab) lab.ifaces)) ≡ length (text_of (map switch_line lab.switches ++ map node_line lab.nodes)) + length (text_of (map (iface_line lab) lab.ifaces)) =
    ap length b ∙ length-append (text_of (map switch_line lab.switches ++ map node_line lab.nodes)) (text_of (map (iface_line lab) lab.ifaces)) in
    let three : length (text_of (((map switch_line lab.switches ++ map node_line lab.nodes) ++ map (iface_line lab) lab.ifaces) ++ map (trunk_line lab) lab.trunks)) ≡ length (text_of ((map switch_line lab.switches ++ map node_line lab.nodes) ++ map (iface_line lab) lab.ifaces)) + length (text_of (map (trunk_line lab) lab.trunks)) =
    ap length a ∙ length-append (text_of ((map switch_line lab.switches ++ map node_line lab.nodes) ++ map (iface_line lab) lab.ifaces)) (text_of (map (trunk_line lab) lab.trunks)) in
    let whole : length (canonical lab) ≡ length (line_text (range_line lab.range)) + length (text_of (((map switch_line lab.switches ++ map node_line lab.nodes) ++ map (iface_line lab) lab.ifaces) ++ map (trunk_line lab) lab.trunks)) =
    length-append (line_text (range_line lab.range)) (text_of (((map switch_line lab.switches ++ map node_line lab.nodes) ++ map (iface_line lab) lab.ifaces) ++ map (trunk_line lab) lab.trunks)) in
    bound _ _ _ _ _ _ _ _ _ _ _ _ _ whole three two one (range_length lab is) switches nodes ifaces trunks is.few_switches is.few_nodes (few_ifaces lab is) (few_trunks lab is)
  where
    bound : (all rest most some range switches nodes ifaces trunks s n i t : ℕ) → all ≡ range + rest → rest ≡ most + trunks → most ≡ some + ifaces → some ≡ switches + nodes → range ≤ 16 → switches ≤ 45 * s → nodes ≤ 672 * n → ifaces ≤ 153 * i → trunks ≤ 125 * t → s ≤ 64 → n ≤ 1024 → i ≤ 16384 → t ≤ 64 → all ≤ 16777216
    bound all rest most some range switches nodes ifaces trunks s n i t e1 e2 e3 e4 h1 h2 h3 h4 h5 l1 l2 l3 l4 = omega arith
