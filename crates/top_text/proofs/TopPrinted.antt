-- The fields of a printed wiring are plain, and no line is skipped.
use Rattle.std.proofs.Common.{◌≡◌, ℕ, ◌/◌, ◌%◌, ◌<◌, Bool, true, false, List, [], ◌∷◌, ◌++◌, length, map, Option, Some, None, refl, sym, subst, arith, inl, inr}
use Rattle.std.specs.Prelude.{codes, decimal, nat_le}
use Rattle.std.specs.List.{list_all, flat_map}
use Rattle.std.proofs.lemmas.Bool.{and_parts, leb-true, ltb-true}
use Rattle.std.proofs.lemmas.List.{append-nil}
use Rattle.lab_base.specs.Names.{is_name}
use Rattle.lab_base.specs.Lists.{Has}
use Rattle.lab_base.proofs.Members.{Has-append, Has-map, Has-flat_map}
use Rattle.line_text.specs.Rates.{rates_fields}
use Rattle.line_text.proofs.PartsAgain.{IsPlain, plain_append, plain_name, plain_number, plain_pair, all_has}
use Rattle.line_text.proofs.LinesAgain.{IsPrinted}
use Rattle.line_text.proofs.Plain.{ArePlain, none, more, pairs_plain}
use Rattle.line_text.proofs.RatesAgain.{rates_plain}
use Rattle.virt_topo.specs.declared.wiring.Class.{Class}
use Rattle.virt_topo.specs.declared.wiring.VirtNode.{VirtNode}
use Rattle.virt_topo.specs.declared.wiring.VirtEnd.{VirtEnd}
use Rattle.virt_topo.specs.declared.wiring.Segment.{Segment}
use Rattle.virt_topo.specs.declared.wiring.Pipe.{Pipe}
use Rattle.virt_topo.specs.declared.wiring.Wiring.{Wiring}
use Rattle.virt_topo.specs.Soundness.{IsSound, limits_class, limits_node, limits_segment, knows_class}
use Rattle.virt_topo.proofs.CableLaws.{limits_of, segment_limits}
use Rattle.top_text.specs.Lines.{pipe_rates}
use Rattle.top_text.specs.Canonical.{virt_name, asked_name, after_name, address_text, end_field, class_fields, node_fields, fix_at, fix_lines, link_fields, multiplex_if, multiplex_lines, pipe_fields, wiring_lines}
use Rattle.top_text.specs.Printable.{named_class, named_asks, named_node, named_place, named_segment, is_address}
use Rattle.top_text.proofs.SoundTests.{sound_tests}
use Rattle.top_text.proofs.TopLines.{rates_within, held}
use Rattle.top_text.proofs.TopAgain.{IsNamed, node_named_at, asked_named, end_within, pipe_facts}

class : IsPlain (codes "make-vclass")
class = record { filled = refl; no_blank = refl; no_feed = refl }

node : IsPlain (codes "node")
node = record { filled = refl; no_blank = refl; no_feed = refl }

fix : IsPlain (codes "fix-node")
fix = record { filled = refl; no_blank = refl; no_feed = refl }

link : IsPlain (codes "link")
link = record { filled = refl; no_blank = refl; no_feed = refl }

multiplex : IsPlain (codes "multiplex")
multiplex = record { filled = refl; no_blank = refl; no_feed = refl }

pipe : IsPlain (codes "pipe")
pipe = record { filled = refl; no_blank = refl; no_feed = refl }

dot : IsPlain (46 ∷ [])
dot = record { filled = refl; no_blank = refl; no_feed = refl }

sign : IsPlain (61 ∷ [])
sign = record { filled = refl; no_blank = refl; no_feed = refl }

names_plain : (names : List (List ℕ)) → list_all is_name names ≡ true → ArePlain names
names_plain names named = record { each = λ f h. plain_name f (all_has is_name names named f h) }

address_plain : (a : ℕ) → a < 4294967296 → IsPlain (address_text a)
address_plain a small =
    let part = λ (n : ℕ) (few : n < 256). plain_append (46 ∷ []) (decimal n) dot (plain_number n (omega (arith, few))) in
    plain_append _ (46 ∷ decimal (a % 256))
    (plain_append _ (46 ∷ decimal (a / 256 % 256))
    (plain_append (decimal (a / 16777216)) (46 ∷ decimal (a / 65536 % 256)) (plain_number (a / 16777216) (omega arith)) (part (a / 65536 % 256) (omega arith)))
    (part (a / 256 % 256) (omega arith)))
    (part (a % 256) (omega arith))

end_plain : (name : List ℕ) (address : Option ℕ) → is_name name ≡ true → is_address address ≡ true → IsPlain (name ++ after_name address)
end_plain name None named short = subst IsPlain (sym (append-nil name)) (plain_name name named)
end_plain name (Some a) named short = plain_append name (61 ∷ address_text a) (plain_name name named) (plain_append (61 ∷ []) (address_text a) sign (address_plain a (ltb-true a 4294967296 short)))

module _ (w : Wiring) (sound : IsSound w) (named : IsNamed w) where
  class_printed : (c : Class) → Has w.classes c → IsPrinted (class_fields c)
  class_printed c h =
      let n = and_parts (is_name c.name) (list_all is_name c.types) (all_has named_class w.classes named.classes c h) in
      let l = and_parts (nat_le c.weight 1000000) _ (all_has limits_class w.classes (limits_of w (sound_tests w sound).limits).each_class c h) in
      record { kept = refl; plain = (more _ _ class (more _ _ (plain_name c.name n.0) (more _ _ (plain_number c.weight (omega (arith, leb-true c.weight 1000000 l.0))) (names_plain c.types n.1)))).each }

  node_printed : (v : VirtNode) → Has w.nodes v → IsPrinted (node_fields w v)
  node_printed v h =
      let a = and_parts (is_name v.name) _ (all_has named_node w.nodes named.nodes v h) in
      let b = and_parts (named_asks v.asks) _ a.1 in
      let d = and_parts (is_name v.os) (list_all (λ d. is_name d.0) v.desires) b.1 in
      let l = and_parts (nat_le (length v.desires) 8) (list_all (λ d. nat_le d.1 1000000) v.desires) (all_has limits_node w.nodes (limits_of w (sound_tests w sound).limits).each_node v h) in
      let known : knows_class w v.asks ≡ true = all_has (λ v. knows_class w v.asks) w.nodes (and_parts (list_all (λ v. knows_class w v.asks) w.nodes) _ (sound_tests w sound).known).0 v h in
      let desires = pairs_plain v.desires (λ x g. plain_pair x.0 (decimal x.1) (plain_name x.0 (all_has (λ d. is_name d.0) v.desires d.1 x g)) (plain_number x.1 (omega (arith, leb-true x.1 1000000 (all_has (λ d. nat_le d.1 1000000) v.desires l.1 x g))))) in
      record { kept = refl; plain = (more _ _ node (more _ _ (plain_name v.name a.0) (more _ _ (plain_name (asked_name w v.asks) (asked_named w sound named v.asks b.0 known)) (more _ _ (plain_name v.os d.0) desires)))).each }

  fix_printed : (v : VirtNode) → Has w.nodes v → (line : List (List ℕ)) → Has (fix_lines v) line → IsPrinted line
  fix_printed v h line g = by v.fixed (all_has (λ v. named_place v.fixed) w.nodes named.places v h) g
    where
      by : (fixed : Option (List ℕ)) → named_place fixed ≡ true → Has (fix_at v.name fixed) line → IsPrinted line
      by None place g = absurd g
      by (Some place) place_named (inl e) =
          subst IsPrinted e (record { kept = refl; plain = (more _ _ fix (more _ _ (plain_name v.name (and_parts (is_name v.name) _ (all_has named_node w.nodes named.nodes v h)).0) (more _ _ (plain_name place place_named) none))).each })
      by (Some place) place_named (inr g) = absurd g

  link_printed : (s : Segment) → Has w.segments s → IsPrinted (link_fields w s)
  link_printed s h =
      let a = and_parts (is_name s.name) _ (all_has named_segment w.segments named.segments s h) in
      let b = and_parts (is_name s.owner) (list_all (λ e. is_address e.address) s.ends) a.1 in
      let limits = segment_limits s (all_has limits_segment w.segments (limits_of w (sound_tests w sound).limits).each_segment s h) in
      let ends : ArePlain (map (end_field w) s.ends) = record { each = λ f g. let at = Has-map (end_field w) s.ends f g in subst IsPlain at.2 (end_plain (virt_name w at.0.node) at.0.address (node_named_at w sound named at.0.node (end_within w sound named s h at.0 at.1)) (all_has (λ (e : VirtEnd). is_address e.address) s.ends b.1 at.0 at.1)) } in
      record { kept = refl; plain = (more _ _ link (more _ _ (plain_name s.name a.0) (more _ _ (plain_name s.owner b.0) (more _ _ (plain_number s.kbps (omega (arith, limits.slow))) ends)))).each }

  mark_printed : (s : Segment) → Has w.segments s → (line : List (List ℕ)) → Has (multiplex_lines s) line → IsPrinted line
  mark_printed s h line g = by s.multiplexed g
    where
      by : (multiplexed : Bool) → Has (multiplex_if s.name multiplexed) line → IsPrinted line
      by false g = absurd g
      by true (inl e) = subst IsPrinted e (record { kept = refl; plain = (more _ _ multiplex (more _ _ (plain_name s.name (and_parts (is_name s.name) _ (all_has named_segment w.segments named.segments s h)).0) none)).each })
      by true (inr g) = absurd g

  pipe_printed : (p : Pipe) → Has w.pipes p → IsPrinted (pipe_fields w p)
  pipe_printed p h =
      let facts = pipe_facts w sound named p h in
      record {
        kept = refl;
        plain = (more _ _ pipe (more _ _ (plain_name (virt_name w p.node) (node_named_at w sound named p.node facts.node)) (more _ _ (plain_number p.from (omega (arith, facts.from))) (more _ _ (plain_number p.to (omega (arith, facts.to)))
            (rates_plain pipe_rates p.there (rates_fields p.back) held (rates_within p.there facts.there) (rates_plain pipe_rates p.back [] held (rates_within p.back facts.back) none)))))).each;
      }

  pub wiring_printed : (line : List (List ℕ)) → Has (wiring_lines w) line → IsPrinted line
  wiring_printed line h = elim (Has-append ((((map class_fields w.classes ++ map (node_fields w) w.nodes) ++ flat_map fix_lines w.nodes) ++ map (link_fields w) w.segments) ++ flat_map multiplex_lines w.segments) (map (pipe_fields w) w.pipes) line h) [
    | inl m ↦ elim (Has-append (((map class_fields w.classes ++ map (node_fields w) w.nodes) ++ flat_map fix_lines w.nodes) ++ map (link_fields w) w.segments) (flat_map multiplex_lines w.segments) line m) [
      | inl a ↦ elim (Has-append ((map class_fields w.classes ++ map (node_fields w) w.nodes) ++ flat_map fix_lines w.nodes) (map (link_fields w) w.segments) line a) [
        | inl b ↦ elim (Has-append (map class_fields w.classes ++ map (node_fields w) w.nodes) (flat_map fix_lines w.nodes) line b) [
          | inl d ↦ elim (Has-append (map class_fields w.classes) (map (node_fields w) w.nodes) line d) [
            | inl e ↦ let at = Has-map class_fields w.classes line e in subst IsPrinted at.2 (class_printed at.0 at.1)
            | inr e ↦ let at = Has-map (node_fields w) w.nodes line e in subst IsPrinted at.2 (node_printed at.0 at.1)
          ]
          | inr d ↦ let at = Has-flat_map fix_lines w.nodes line d in fix_printed at.0 at.1 line at.2
        ]
        | inr b ↦ let at = Has-map (link_fields w) w.segments line b in subst IsPrinted at.2 (link_printed at.0 at.1)
      ]
      | inr m ↦ let at = Has-flat_map multiplex_lines w.segments line m in mark_printed at.0 at.1 line at.2
    ]
    | inr a ↦ let at = Has-map (pipe_fields w) w.pipes line a in subst IsPrinted at.2 (pipe_printed at.0 at.1)
  ]
