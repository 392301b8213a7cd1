-- The fields of a canonical text are plain, and no line is skipped.
use Rattle.std.proofs.Common.{◌≡◌, ℕ, suc, ◌<◌, true, not, eqb, List, [], ◌∷◌, length, map, All, refl, subst, arith, inl, inr}
use Rattle.std.specs.Prelude.{codes, decimal, nat_le}
use Rattle.std.specs.List.{list_all}
use Rattle.std.proofs.lemmas.Bool.{and_parts, leb-true}
use Rattle.lab_base.specs.Names.{is_name}
use Rattle.lab_base.specs.Lists.{Has}
use Rattle.lab_base.proofs.Members.{Has-append}
use Rattle.phys_lab.specs.declared.parts.Node.{Node}
use Rattle.phys_lab.specs.declared.parts.Iface.{Iface}
use Rattle.phys_lab.specs.declared.parts.Trunk.{Trunk}
use Rattle.phys_lab.specs.Labs.{Lab}
use Rattle.phys_lab.specs.Forests.{IsWithin}
use Rattle.phys_lab.specs.Faults.{is_type, is_feature, is_port_number, is_speed}
use Rattle.phys_lab.specs.Kept.{IsLab, IsWhole}
use Rattle.ptop_text.specs.Canonical.{feature_fields, range_line, switch_line, node_line, iface_line, trunk_line, node_name, switch_name}
use Rattle.line_text.specs.Printing.{with_number}
use Rattle.line_text.proofs.PartsAgain.{IsPlain, plain_name, plain_number, plain_pair, all_has}
use Rattle.line_text.proofs.LinesAgain.{IsPrinted}
use Rattle.line_text.proofs.Plain.{ArePlain, none, more, pairs_plain}
use Rattle.ptop_text.proofs.DeviceAgain.{range_is, type_is}
use Rattle.ptop_text.proofs.LinkAgain.{switch_named, node_named, port_is, speed_is}

vlans : IsPlain (codes "vlans")
vlans = record { filled = refl; no_blank = refl; no_feed = refl }

node : IsPlain (codes "node")
node = record { filled = refl; no_blank = refl; no_feed = refl }

switch : IsPlain (codes "switch")
switch = record { filled = refl; no_blank = refl; no_feed = refl }

dash : IsPlain (codes "-")
dash = record { filled = refl; no_blank = refl; no_feed = refl }

link : IsPlain (codes "link")
link = record { filled = refl; no_blank = refl; no_feed = refl }

pub range_printed : (lab : Lab) → IsLab lab → IsPrinted (range_line lab.range)
range_printed lab is =
    let range = range_is lab.range.0 lab.range.1 is.range in
    record {
      kept = refl;
      plain = (more _ _ vlans (more _ _ (plain_number lab.range.0 (omega (arith, range.order, range.high))) (more _ _ (plain_number lab.range.1 (omega (arith, range.high))) none))).each;
    }

pub switch_printed : (name : List ℕ) → is_name name ≡ true → IsPrinted (switch_line name)
switch_printed name named = record { kept = refl; plain = (more _ _ node (more _ _ (plain_name name named) (more _ _ switch none))).each }

features_plain : (features : List (List ℕ × ℕ)) → ((pair : List ℕ × ℕ) → Has features pair → IsPlain (with_number pair)) → ArePlain (feature_fields features)
features_plain [] each = none
features_plain (x ∷ features) each = more _ _ dash (pairs_plain (x ∷ features) each)

pub node_printed : (node : Node) → IsWhole node → IsPrinted (node_line node)
node_printed n is =
    let p = and_parts (is_name n.name) _ is.ranges in
    let q = and_parts (not (eqb (length n.types) 0)) _ p.1 in
    let r = and_parts (list_all is_type n.types) (list_all is_feature n.features) q.1 in
    record {
      kept = refl;
      plain = (more _ _ node (more _ _ (plain_name n.name p.0) (record {
        each = λ f h. elim (Has-append (map with_number n.types) (feature_fields n.features) f h) [
          | inl a ↦ (pairs_plain n.types (λ t g. let kind = type_is t (all_has is_type n.types r.0 t g) in plain_pair t.0 (decimal t.1) (plain_name t.0 kind.named) (plain_number t.1 (omega (arith, kind.high))))).each f a
          | inr b ↦ (features_plain n.features (λ t g. let w = and_parts (is_name t.0) (nat_le t.1 1000000) (all_has is_feature n.features r.1 t g) in plain_pair t.0 (decimal t.1) (plain_name t.0 w.0) (plain_number t.1 (omega (arith, leb-true t.1 1000000 w.1))))).each f b
        ];
      }))).each;
    }

pub at : {X : Type 0} (P : X → Type 0) (xs : List X) → All P xs → (x : X) → Has xs x → P x
at P [] all x h = absurd h
at P (y ∷ xs) all x (inl e) = subst P e (all 0 y (omega arith))
at P (y ∷ xs) all x (inr h) = at P xs (λ k d lt. all (suc k) d (omega arith)) x h

pub iface_printed : (lab : Lab) → IsLab lab → (iface : Iface) → Has lab.ifaces iface → IsPrinted (iface_line lab iface)
iface_printed lab is iface there =
    let p = and_parts _ _ (is.ifaces iface there) in
    let names = and_parts _ _ p.0 in
    let sizes = and_parts (is_port_number iface.port) (is_speed iface.kbps) p.1 in
    let port = port_is iface.port sizes.0 in
    let speed = speed_is iface.kbps sizes.1 in
    let node_is = node_named lab iface.node.0 is (at (λ i. i.node.0 < length lab.nodes) lab.ifaces is.linked.nodes iface there) in
    let switch_is = switch_named lab iface.switch.0 is (at (λ i. i.switch.0 < length lab.switches) lab.ifaces is.linked.switches iface there) in
    record {
      kept = refl;
      plain = (more _ _ link (more _ _ (plain_name iface.link names.0) (more _ _ (plain_pair (node_name lab iface.node.0) iface.name (plain_name _ node_is.named) (plain_name iface.name names.1))
          (more _ _ (plain_pair (switch_name lab iface.switch) (decimal iface.port) (plain_name _ switch_is.named) (plain_number iface.port (omega (arith, port.high))))
          (more _ _ (plain_number iface.kbps (omega (arith, speed.high))) none))))).each;
    }

pub trunk_printed : (lab : Lab) → IsLab lab → (trunk : Trunk) → Has lab.trunks trunk → IsPrinted (trunk_line lab trunk)
trunk_printed lab is trunk there =
    let within = at (IsWithin (length lab.switches)) lab.trunks is.linked.trunks trunk there in
    let p = and_parts _ _ (is.trunks trunk there) in
    let q = and_parts (is_port_number trunk.first.1) _ p.1 in
    let r = and_parts (is_port_number trunk.second.1) (is_speed trunk.kbps) q.1 in
    let one = port_is trunk.first.1 q.0 in
    let two = port_is trunk.second.1 r.0 in
    let speed = speed_is trunk.kbps r.1 in
    let first = switch_named lab trunk.first.0.0 is within.0 in
    let second = switch_named lab trunk.second.0.0 is within.1 in
    record {
      kept = refl;
      plain = (more _ _ link (more _ _ (plain_name trunk.link p.0)
          (more _ _ (plain_pair (switch_name lab trunk.first.0) (decimal trunk.first.1) (plain_name _ first.named) (plain_number trunk.first.1 (omega (arith, one.high))))
          (more _ _ (plain_pair (switch_name lab trunk.second.0) (decimal trunk.second.1) (plain_name _ second.named) (plain_number trunk.second.1 (omega (arith, two.high))))
          (more _ _ (plain_number trunk.kbps (omega (arith, speed.high))) none))))).each;
    }
