-- A part of a lab has no fault after the parts before it.
use Rattle.std.proofs.Common.{◌≡◌, ◌≢◌, ℕ, ◌+◌, ◌<◌, ◌≤◌, Bool, true, false, not, cond, eqb, List, [], ◌∷◌, ◌++◌, length, map, get_or, count_by, Option, Some, None, refl, sym, ap, subst, ◌∙◌, arith, inl, inr, length-append}
use Rattle.std.specs.Prelude.{nat_lt}
use Rattle.std.specs.List.{flat_map}
use Rattle.std.proofs.lemmas.Bool.{and_from, eq-eqb, or_from, lt-leb}
use Rattle.std.proofs.lemmas.Bool.Decides.{nat_tests}
use Rattle.std.proofs.lemmas.List.{map-append}
use Rattle.std.proofs.lemmas.List.Sums.{sum_by-append, sum_by-cons}
use Rattle.std.proofs.lemmas.Grind.{flat_map-append}
use Rattle.lab_base.specs.Lists.{Has, AllDiffer}
use Rattle.lab_base.specs.declared.ids.SwitchId.{SwitchId}
use Rattle.lab_base.proofs.Members.{Has-right, Apart-left, Apart-right, Apart-across}
use Rattle.lab_base.specs.Names.{same_name}
use Rattle.lab_base.proofs.Bytes.{bytes_same}
use Rattle.phys_lab.specs.declared.fault.LabFault.{LabFault}
use Rattle.phys_lab.specs.declared.fault.LabFault.TheVariants as faults
use Rattle.phys_lab.specs.declared.parts.Node.{Node}
use Rattle.phys_lab.specs.declared.parts.Iface.{Iface}
use Rattle.phys_lab.specs.declared.parts.Trunk.{Trunk}
use Rattle.phys_lab.specs.Labs.{Lab}
use Rattle.phys_lab.specs.Keys.{same_iface, same_port, has_name, has_port, name_on_node, port_of, ports_of}
use Rattle.phys_lab.specs.Faults.{switch_fault, node_fault, iface_fault, trunk_fault, ifaces_of}
use Rattle.phys_lab.specs.Sides.{IsForest}
use Rattle.phys_lab.specs.Forests.{IsWithin}
use Rattle.phys_lab.specs.Kept.{IsLab, IsWhole}
use Rattle.phys_lab.proofs.ForestKept.{next_apart}
use Rattle.phys_lab.proofs.KeptLaws.{none_any, same_iface-true, same_port-true}

-- no fault here, and none later
go : (b : Bool) (f : LabFault) (rest : Option LabFault) → b ≡ false → rest ≡ None → cond b (Some f) rest ≡ None
go b f rest e r = ap (λ (x : Bool). cond x (Some f) rest) e ∙ r

holds : (a : Bool) → a ≡ true → not a ≡ false
holds a e = ap not e

up_to : (m n : ℕ) → n ≤ m → nat_lt m n ≡ false
up_to m n h = grind (arith, nat_tests)

below : (m n : ℕ) → n < m → nat_lt n m ≡ true
below m n h = grind (arith, nat_tests)

no_name : (names : List (List ℕ)) (name : List ℕ) → (Has names name → ⊥) → has_name names name ≡ false
no_name names name none = none_any same_name bytes_same names name none

no_port : (ports : List (SwitchId × ℕ)) (port : SwitchId × ℕ) → (Has ports port → ⊥) → has_port ports port ≡ false
no_port ports port none = none_any same_port same_port-true ports port none

abbrev iface_at : List Iface → ℕ → Iface → Iface
iface_at ifaces n d = get_or ifaces n d

abbrev trunk_in : List Trunk → ℕ → Trunk → Trunk
trunk_in trunks n d = get_or trunks n d

pub at_seam : {X : Type 0} (front : List X) (x : X) (rest : List X) (d : X) → get_or (front ++ x ∷ rest) (length front) d ≡ x
at_seam [] x rest d = refl
at_seam (y ∷ front) x rest d = at_seam front x rest d

-- an element is not among those before it
pub not_before : {X : Type 0} (front : List X) (x : X) (rest : List X) → AllDiffer (front ++ x ∷ rest) → Has front x → ⊥
not_before front x rest differ h = Apart-across (λ a b. a ≢ b) front (x ∷ rest) x x differ h (inl refl) refl

-- of two lists: not in the first, and not before itself in the second
pub not_across : {X : Type 0} (xs ys : List X) (y : X) → AllDiffer (xs ++ ys) → Has ys y → Has xs y → ⊥
not_across xs ys y differ there h = Apart-across (λ a b. a ≢ b) xs ys y y differ h there refl

-- THE LAB SO FAR, AFTER SOME OF ITS SWITCHES, NODES, INTERFACES, TRUNKS
abbrev pub lab_after : Lab → List (List ℕ) → List Node → List Iface → List Trunk → Lab
lab_after lab switches nodes ifaces trunks = record { range = lab.range; switches = switches; nodes = nodes; ifaces = ifaces; trunks = trunks }

pub no_switch_fault : (lab : Lab) (front : List (List ℕ)) (name : List ℕ) (rest : List (List ℕ)) → IsLab lab → front ++ name ∷ rest ≡ lab.switches
    → switch_fault (lab_after lab front [] [] []) name ≡ None
no_switch_fault lab front name rest is e =
    let differ : AllDiffer (front ++ name ∷ rest) = subst (λ l. AllDiffer l) (sym e) (Apart-left (λ a b. a ≢ b) lab.switches (map (λ n. n.name) lab.nodes) is.devices_differ) in
    let few : length front < 64 = omega (arith, is.few_switches, ap length e, length-append front (name ∷ rest)) in
    go _ faults.Twice _ (or_from _ _ (no_name front name (not_before front name rest differ)) refl)
    (go _ faults.Limit _ (lt-leb 64 (length front) few) refl)

pub no_node_fault : (lab : Lab) (front : List Node) (node : Node) (rest : List Node) → IsLab lab → front ++ node ∷ rest ≡ lab.nodes
    → node_fault (lab_after lab lab.switches front [] []) node ≡ None
no_node_fault lab front node rest is e =
    let names : map (λ (n : Node). n.name) lab.nodes ≡ map (λ (n : Node). n.name) front ++ node.name ∷ map (λ (n : Node). n.name) rest =
    ap (map (λ (n : Node). n.name)) (sym e) ∙ map-append (λ (n : Node). n.name) front (node ∷ rest) in
    let differ : AllDiffer (lab.switches ++ (map (λ (n : Node). n.name) front ++ node.name ∷ map (λ (n : Node). n.name) rest)) =
    subst (λ l. AllDiffer (lab.switches ++ l)) names is.devices_differ in
    let whole : IsWhole node = is.nodes node (subst (λ l. Has l node) e (Has-right front (node ∷ rest) node (inl refl))) in
    let few : length front < 1024 = omega (arith, is.few_nodes, ap length e, length-append front (node ∷ rest)) in
    let switch : has_name lab.switches node.name ≡ false =
    no_name lab.switches node.name (not_across lab.switches _ node.name differ (Has-right (map (λ n. n.name) front) (node.name ∷ map (λ n. n.name) rest) node.name (inl refl))) in
    let before : has_name (map (λ (n : Node). n.name) front) node.name ≡ false =
    no_name _ node.name (not_before (map (λ n. n.name) front) node.name (map (λ n. n.name) rest) (Apart-right (λ a b. a ≢ b) lab.switches _ differ)) in
    go _ faults.Range _ (holds _ whole.ranges)
    (go _ faults.Twice _ (or_from _ _ (or_from _ _ switch before) whole.differ)
    (go _ faults.Limit _ (or_from _ _ (lt-leb 1024 (length front) few) (or_from _ _ (up_to 8 _ whole.few_types) (up_to 8 _ whole.few_features))) refl))

abbrev counts_one : ℕ → Iface → ℕ
counts_one n iface = cond (eqb iface.node.0 n) 1 0

pub no_iface_fault : (lab : Lab) (front : List Iface) (iface : Iface) (rest : List Iface) → IsLab lab → front ++ iface ∷ rest ≡ lab.ifaces
    → iface_fault (lab_after lab lab.switches lab.nodes front []) iface ≡ None
no_iface_fault lab front iface rest is e =
    let there : Has lab.ifaces iface = subst (λ l. Has l iface) e (Has-right front (iface ∷ rest) iface (inl refl)) in
    let links : AllDiffer (map (λ (i : Iface). i.link) front ++ iface.link ∷ map (λ (i : Iface). i.link) rest) =
    subst (λ l. AllDiffer l) (ap (map (λ (i : Iface). i.link)) (sym e) ∙ map-append (λ (i : Iface). i.link) front (iface ∷ rest)) (Apart-left (λ a b. a ≢ b) _ (map (λ t. t.link) lab.trunks) is.links_differ) in
    let names : AllDiffer (map name_on_node front ++ name_on_node iface ∷ map name_on_node rest) =
    subst (λ l. AllDiffer l) (ap (map name_on_node) (sym e) ∙ map-append name_on_node front (iface ∷ rest)) is.names_differ in
    let ports : AllDiffer (map port_of front ++ port_of iface ∷ map port_of rest) =
    subst (λ l. AllDiffer l) (ap (map port_of) (sym e) ∙ map-append port_of front (iface ∷ rest)) (Apart-left (λ a b. a ≢ b) _ (flat_map ports_of lab.trunks) is.ports_differ) in
    let here : length front < length lab.ifaces = omega (arith, ap length e, length-append front (iface ∷ rest)) in
    let at : iface_at lab.ifaces (length front) iface ≡ iface = ap (λ (l : List Iface). iface_at l (length front) iface) (sym e) ∙ at_seam front iface rest iface in
    let switch : iface.switch.0 < length lab.switches = subst (λ (i : Iface). i.switch.0 < length lab.switches) at (is.linked.switches (length front) iface here) in
    let node : iface.node.0 < length lab.nodes = subst (λ (i : Iface). i.node.0 < length lab.nodes) at (is.linked.nodes (length front) iface here) in
    let counted : ifaces_of lab iface.node.0 ≡ count_by (λ i. eqb i.node.0 iface.node.0) front + count_by (λ i. eqb i.node.0 iface.node.0) (iface ∷ rest) =
    ap (λ (l : List Iface). count_by (λ i. eqb i.node.0 iface.node.0) l) (sym e) ∙ sum_by-append (counts_one iface.node.0) front (iface ∷ rest) in
    let own : count_by (λ i. eqb i.node.0 iface.node.0) (iface ∷ rest) ≡ counts_one iface.node.0 iface + count_by (λ i. eqb i.node.0 iface.node.0) rest = sum_by-cons (counts_one iface.node.0) iface rest in
    let one : counts_one iface.node.0 iface ≡ 1 = ap (λ (b : Bool). cond b 1 0) (eq-eqb iface.node.0 iface.node.0 refl) in
    let few : count_by (λ i. eqb i.node.0 iface.node.0) front < 16 = omega (arith, counted, own, one, is.few_ifaces iface.node.0) in
    go _ faults.Range _ (holds _ (is.ifaces iface there))
    (go _ faults.Twice _ (or_from _ _ (or_from _ _ (no_name _ iface.link (not_before _ iface.link _ links)) refl) (none_any same_iface same_iface-true _ (name_on_node iface) (not_before _ (name_on_node iface) _ names)))
    (go _ faults.Unknown _ (holds _ (and_from _ _ (below _ _ node) (below _ _ switch)))
    (go _ faults.PortTaken _ (or_from _ _ (no_port _ (port_of iface) (not_before _ (port_of iface) _ ports)) refl)
    (go _ faults.Limit _ (lt-leb 16 _ few) refl))))

pub no_trunk_fault : (lab : Lab) (front : List Trunk) (trunk : Trunk) (rest : List Trunk) → IsLab lab → front ++ trunk ∷ rest ≡ lab.trunks
    → trunk_fault (lab_after lab lab.switches lab.nodes lab.ifaces front) trunk ≡ None
no_trunk_fault lab front trunk rest is e =
    let there : Has lab.trunks trunk = subst (λ l. Has l trunk) e (Has-right front (trunk ∷ rest) trunk (inl refl)) in
    let links : AllDiffer (map (λ (i : Iface). i.link) lab.ifaces ++ (map (λ (t : Trunk). t.link) front ++ trunk.link ∷ map (λ (t : Trunk). t.link) rest)) =
    subst (λ l. AllDiffer (map (λ (i : Iface). i.link) lab.ifaces ++ l)) (ap (map (λ (t : Trunk). t.link)) (sym e) ∙ map-append (λ (t : Trunk). t.link) front (trunk ∷ rest)) is.links_differ in
    let ports : AllDiffer (map port_of lab.ifaces ++ (flat_map ports_of front ++ trunk.first ∷ trunk.second ∷ flat_map ports_of rest)) =
    subst (λ l. AllDiffer (map port_of lab.ifaces ++ l)) (ap (flat_map ports_of) (sym e) ∙ flat_map-append ports_of front (trunk ∷ rest)) is.ports_differ in
    let own : AllDiffer (flat_map ports_of front ++ trunk.first ∷ trunk.second ∷ flat_map ports_of rest) = Apart-right (λ a b. a ≢ b) (map port_of lab.ifaces) _ ports in
    let first_there : Has (flat_map ports_of front ++ trunk.first ∷ trunk.second ∷ flat_map ports_of rest) trunk.first = Has-right (flat_map ports_of front) (trunk.first ∷ trunk.second ∷ flat_map ports_of rest) trunk.first (inl refl) in
    let second_there : Has (flat_map ports_of front ++ trunk.first ∷ trunk.second ∷ flat_map ports_of rest) trunk.second = Has-right (flat_map ports_of front) (trunk.first ∷ trunk.second ∷ flat_map ports_of rest) trunk.second (inr (inl refl)) in
    let here : length front < length lab.trunks = omega (arith, ap length e, length-append front (trunk ∷ rest)) in
    let at : trunk_in lab.trunks (length front) trunk ≡ trunk = ap (λ (l : List Trunk). trunk_in l (length front) trunk) (sym e) ∙ at_seam front trunk rest trunk in
    let within : IsWithin (length lab.switches) trunk = subst (IsWithin (length lab.switches)) at (is.linked.trunks (length front) trunk here) in
    let link : has_name (map (λ (i : Iface). i.link) lab.ifaces) trunk.link ≡ false = no_name _ trunk.link (not_across _ _ trunk.link links (Has-right (map (λ t. t.link) front) (trunk.link ∷ map (λ t. t.link) rest) trunk.link (inl refl))) in
    let earlier : has_name (map (λ (t : Trunk). t.link) front) trunk.link ≡ false = no_name _ trunk.link (not_before _ trunk.link _ (Apart-right (λ a b. a ≢ b) (map (λ i. i.link) lab.ifaces) _ links)) in
    let second_free : Has (flat_map ports_of front) trunk.second → ⊥ = λ h. Apart-across (λ a b. a ≢ b) (flat_map ports_of front) (trunk.first ∷ trunk.second ∷ flat_map ports_of rest) trunk.second trunk.second own h (inr (inl refl)) refl in
    go _ faults.Range _ (holds _ (is.trunks trunk there))
    (go _ faults.Twice _ (or_from _ _ link earlier)
    (go _ faults.Unknown _ (holds _ (and_from _ _ (below _ _ within.0) (below _ _ within.1)))
    (go _ faults.PortTaken _ (or_from _ _ (or_from _ _ (no_port _ trunk.first (not_across _ _ trunk.first ports first_there)) (no_port _ trunk.first (not_before _ trunk.first _ own))) (or_from _ _ (no_port _ trunk.second (not_across _ _ trunk.second ports second_there)) (no_port _ trunk.second second_free)))
    (go _ faults.Cycle _ (next_apart front rest trunk (subst IsForest (sym e) is.forest)) refl))))
