-- A lab in which nothing is claimed.
use Rattle.std.proofs.Common.{◌≡◌, ℕ, ◌<◌, ◌≤◌, ◌&&◌, Bool, true, false, if◌then◌else◌, nat_le, Option, Some, None, List, [], length, map, replicate, get_or, refl, sym, ap, ◌∙◌, arith}
use Rattle.std.proofs.lemmas.Bool.{and_parts, leb-true}
use Rattle.std.proofs.lemmas.List.{get_or-map, get_or-replicate, length-replicate, length-map}
use Rattle.phys_lab.specs.Labs.{Lab}
use Rattle.phys_lab.specs.Kept.{IsLab}
use Rattle.phys_lab.specs.Faults.{range_fault, is_trunk, is_port_number}
use Rattle.phys_lab.specs.Sides.{no_trunk}
use Rattle.phys_lab.specs.declared.fault.LabFault.{LabFault}
use Rattle.phys_lab.specs.declared.fault.LabFault.TheVariants as faults
use Rattle.phys_lab.specs.declared.parts.Trunk.{Trunk}
use Rattle.lab_base.specs.Names.{is_name}
use Rattle.lab_base.proofs.Members.{Has-get_or}
use Rattle.claims.specs.declared.tables.Tables.{Tables}
use Rattle.claims.specs.Held.{size_of}
use Rattle.claims.specs.Kept.{Keeps}

pub record InOrder (first last : ℕ) : Type 0 where
  pub order : first ≤ last
  pub last_id : last ≤ 4094

pub in_order : (first last : ℕ) → range_fault first last ≡ None → InOrder first last
in_order first last h = by _ refl h
  where
    by : (b : Bool) → (nat_le 2 first && (nat_le first last && nat_le last 4094)) ≡ b → ◌≡◌ {A = Option LabFault} (if b then None else Some faults.Range) None → InOrder first last
    by false e h = absurd (cc h)
    by true e h = let p = and_parts (nat_le 2 first) _ e in let q = and_parts (nat_le first last) _ p.1 in record { order = leb-true _ _ q.0; last_id = leb-true _ _ q.1 }

pub slow_trunk : (t : Trunk) → is_trunk t ≡ true → t.kbps ≤ 1000000000
slow_trunk t h =
    let p = and_parts (is_name t.link) _ h in
    let q = and_parts (is_port_number t.first.1) _ p.1 in
    let r = and_parts (is_port_number t.second.1) _ q.1 in
    leb-true _ _ (and_parts (nat_le 1 t.kbps) _ r.1).1

pub empty_kept : (lab : Lab) (kbps : List ℕ) (tables : Tables) (ids : ℕ) → IsLab lab → ids ≡ size_of lab.range → kbps ≡ map (λ t. t.kbps) lab.trunks → tables.nodes.items ≡ replicate (length lab.nodes) None → tables.used.items ≡ replicate (length lab.trunks) 0 → tables.ids.items ≡ replicate ids None → Keeps lab.range kbps [] tables
empty_kept lab kbps tables ids is_lab size speeds nodes used ids_so =
    let range = in_order lab.range.0 lab.range.1 is_lab.range in
    let trunks : length kbps ≡ length lab.trunks = ap length speeds ∙ length-map lab.trunks (λ (t : Trunk). t.kbps) in
    let many : length tables.nodes.items ≡ length lab.nodes = ap length nodes ∙ length-replicate (length lab.nodes) None in
    let some : length tables.used.items ≡ length lab.trunks = ap length used ∙ length-replicate (length lab.trunks) 0 in
    record {
      few_nodes = omega (arith, many, is_lab.few_nodes);
      first_id = range.order;
      last_id = range.last_id;
      slow = λ t h.
          let in_trunks : t < length lab.trunks = omega (arith, h, trunks) in
          let speed : get_or kbps t 0 ≡ (get_or lab.trunks t no_trunk).kbps = ap (λ l. get_or l t 0) speeds ∙ get_or-map (λ (x : Trunk). x.kbps) lab.trunks t no_trunk 0 in_trunks in
          omega (arith, speed, slow_trunk (get_or lab.trunks t no_trunk) (is_lab.trunks _ (Has-get_or lab.trunks t no_trunk in_trunks)));
      together = record { within = λ e h. absurd h; apart = tt; trunks = λ t h. omega arith };
      are_tables = record {
        trunks = some ∙ sym trunks;
        ids = ap length ids_so ∙ length-replicate ids None ∙ size;
        nodes_are = λ n h. ap (λ l. get_or l n None) nodes ∙ get_or-replicate (length lab.nodes) n None None (omega (arith, h, many));
        used_is = λ t h. ap (λ l. get_or l t 0) used ∙ get_or-replicate (length lab.trunks) t 0 0 (omega (arith, h, trunks));
        ids_are = λ i h. ap (λ l. get_or l i None) ids_so ∙ get_or-replicate ids i None None (omega (arith, h, size));
      };
    }
