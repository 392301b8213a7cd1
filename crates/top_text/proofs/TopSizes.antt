-- How long the canonical text of a wiring is.
use Rattle.std.proofs.Common.{◌≡◌, ℕ, ◌+◌, ◌*◌, ◌/◌, ◌%◌, ◌<◌, ◌≤◌, ◌^◌, Bool, true, false, List, [], ◌∷◌, ◌++◌, length, map, Option, Some, None, refl, ap, ◌∙◌, arith, inl, inr, length-append}
use Rattle.std.specs.Prelude.{codes, decimal, nat_le}
use Rattle.std.specs.List.{list_all, flat_map}
use Rattle.std.proofs.lemmas.Bool.{and_parts, leb-true, ltb-true}
use Rattle.std.proofs.lemmas.List.{length-map}
use Rattle.std.proofs.lemmas.Fmt.{length-decimal-le}
use Rattle.std.proofs.lemmas.Grind.{flat_map-append}
use Rattle.lab_base.specs.Names.{is_name}
use Rattle.lab_base.specs.Lists.{Has}
use Rattle.lab_base.specs.declared.rates.Rates.{Rates}
use Rattle.lab_base.proofs.Names.{name_short}
use Rattle.line_text.specs.Printing.{line_text, text_of, with_number}
use Rattle.line_text.specs.Rates.{rates_fields}
use Rattle.line_text.proofs.PartsAgain.{all_has}
use Rattle.line_text.proofs.Widths.{width, width-append, line_length, lines_length, pairs_width, pair_length}
use Rattle.virt_topo.specs.declared.wiring.Class.{Class}
use Rattle.virt_topo.specs.declared.wiring.VirtNode.{VirtNode}
use Rattle.virt_topo.specs.declared.wiring.VirtEnd.{VirtEnd}
use Rattle.virt_topo.specs.declared.wiring.Segment.{Segment}
use Rattle.virt_topo.specs.declared.wiring.Pipe.{Pipe}
use Rattle.virt_topo.specs.declared.wiring.Wiring.{Wiring}
use Rattle.virt_topo.specs.Ends.{end_nodes}
use Rattle.virt_topo.specs.Soundness.{IsSound, limits_class, limits_node, limits_segment, are_rates, knows_class}
use Rattle.virt_topo.proofs.CableLaws.{limits_of, segment_limits}
use Rattle.top_text.specs.Canonical.{virt_name, asked_name, after_name, address_text, end_field, class_fields, node_fields, fix_at, fix_lines, link_fields, multiplex_if, multiplex_lines, pipe_fields, canonical_top}
use Rattle.top_text.specs.Printable.{named_class, named_asks, named_node, named_place, named_segment, is_address, is_printable}
use Rattle.top_text.proofs.SoundTests.{sound_tests}
use Rattle.top_text.proofs.TopLines.{rates_within}
use Rattle.top_text.proofs.TopAgain.{IsNamed, named_of, node_named_at, asked_named, end_within, pipe_facts}
use Rattle.top_text.proofs.PipeCount.{few_pipes}

digits : (n k : ℕ) → 0 < k → n < 10 ^ k → n < 2 ^ 64 → length (decimal n) ≤ k
digits n k some small fits = length-decimal-le k n some small fits

names_width : (names : List (List ℕ)) → list_all is_name names ≡ true → width names ≤ 33 * length names
unfolding width
names_width [] named = omega arith
names_width (name ∷ names) named =
    let p = and_parts (is_name name) (list_all is_name names) named in
    let rest = names_width names p.1 in
    omega (arith, name_short name p.0, rest)

address_length : (a : ℕ) → a < 4294967296 → length (address_text a) ≤ 15
address_length a small =
    let one = digits (a / 16777216) 3 (omega arith) (omega arith) (omega arith) in
    let two = digits (a / 65536 % 256) 3 (omega arith) (omega arith) (omega arith) in
    let three = digits (a / 256 % 256) 3 (omega arith) (omega arith) (omega arith) in
    let four = digits (a % 256) 3 (omega arith) (omega arith) (omega arith) in
    let x = length-append (decimal (a / 16777216)) (46 ∷ decimal (a / 65536 % 256)) in
    let y = length-append (decimal (a / 16777216) ++ 46 ∷ decimal (a / 65536 % 256)) (46 ∷ decimal (a / 256 % 256)) in
    let z = length-append (decimal (a / 16777216) ++ 46 ∷ decimal (a / 65536 % 256) ++ 46 ∷ decimal (a / 256 % 256)) (46 ∷ decimal (a % 256)) in
    omega (arith, one, two, three, four, x, y, z)

end_length : (name : List ℕ) (address : Option ℕ) → is_name name ≡ true → is_address address ≡ true → length (name ++ after_name address) ≤ 48
end_length name None named short = omega (arith, length-append name [], name_short name named)
end_length name (Some a) named short = omega (arith, length-append name (61 ∷ address_text a), name_short name named, address_length a (ltb-true a 4294967296 short))

ends_width : (w : Wiring) (ends : List VirtEnd) → ((e : VirtEnd) → Has ends e → length (end_field w e) ≤ 48) → width (map (end_field w) ends) ≤ 49 * length ends
unfolding width
ends_width w [] each = omega arith
ends_width w (e ∷ ends) each =
    let rest = ends_width w ends (λ x h. each x (inr h)) in
    let one : length (end_field w e) ≤ 48 = each e (inl refl) in
    omega (arith, rest, one)

rates_width : (r : Rates) → are_rates r ≡ true → width (rates_fields r) ≤ 28
unfolding width
rates_width r h =
    let l = rates_within r h in
    let a = digits r.kbps 10 (omega arith) (omega (arith, l.slow)) (omega (arith, l.slow)) in
    let b = digits r.micros 8 (omega arith) (omega (arith, l.late)) (omega (arith, l.late)) in
    let c = digits r.ppm 7 (omega arith) (omega (arith, l.lost)) (omega (arith, l.lost)) in
    omega (arith, a, b, c)

fix_line_length : (name place : List ℕ) → is_name name ≡ true → is_name place ≡ true → length (line_text (codes "fix-node" ∷ name ∷ place ∷ []) ++ []) ≤ 75
unfolding width
fix_line_length name place a b = omega (arith, length-append (line_text (codes "fix-node" ∷ name ∷ place ∷ [])) [], line_length (codes "fix-node") (name ∷ place ∷ []), name_short name a, name_short place b)

multiplex_line_length : (name : List ℕ) → is_name name ≡ true → length (line_text (codes "multiplex" ∷ name ∷ []) ++ []) ≤ 44
unfolding width
multiplex_line_length name a = omega (arith, length-append (line_text (codes "multiplex" ∷ name ∷ [])) [], line_length (codes "multiplex") (name ∷ []), name_short name a)

module _ (w : Wiring) (sound : IsSound w) (named : IsNamed w) where
  class_length : (c : Class) → Has w.classes c → length (line_text (class_fields c)) ≤ 317
  unfolding width
  class_length c h =
      let n = and_parts (is_name c.name) (list_all is_name c.types) (all_has named_class w.classes named.classes c h) in
      let l = and_parts (nat_le c.weight 1000000) _ (all_has limits_class w.classes (limits_of w (sound_tests w sound).limits).each_class c h) in
      let count = and_parts (nat_le 1 (length c.types)) (nat_le (length c.types) 8) l.1 in
      let few = leb-true (length c.types) 8 count.1 in
      let weight = leb-true c.weight 1000000 l.0 in
      let long = digits c.weight 7 (omega arith) (omega (arith, weight)) (omega (arith, weight)) in
      omega (arith, line_length (codes "make-vclass") (c.name ∷ decimal c.weight ∷ c.types), name_short c.name n.0, long, few, names_width c.types n.1)

  node_length : (v : VirtNode) → Has w.nodes v → length (line_text (node_fields w v)) ≤ 432
  unfolding width
  node_length v h =
      let a = and_parts (is_name v.name) _ (all_has named_node w.nodes named.nodes v h) in
      let b = and_parts (named_asks v.asks) _ a.1 in
      let d = and_parts (is_name v.os) (list_all (λ d. is_name d.0) v.desires) b.1 in
      let l = and_parts (nat_le (length v.desires) 8) (list_all (λ d. nat_le d.1 1000000) v.desires) (all_has limits_node w.nodes (limits_of w (sound_tests w sound).limits).each_node v h) in
      let few = leb-true (length v.desires) 8 l.0 in
      let known : knows_class w v.asks ≡ true = all_has (λ v. knows_class w v.asks) w.nodes (and_parts (list_all (λ v. knows_class w v.asks) w.nodes) _ (sound_tests w sound).known).0 v h in
      let desires : width (map with_number v.desires) ≤ 41 * length v.desires = pairs_width 41 v.desires (λ x g.
      let low : x.1 ≤ 1000000 = leb-true x.1 1000000 (all_has (λ d. nat_le d.1 1000000) v.desires l.1 x g) in
      let long = pair_length x.0 x.1 7 (all_has (λ d. is_name d.0) v.desires d.1 x g) (omega arith) (omega (arith, low)) (omega (arith, low)) in
      omega (arith, long)) in
      omega (arith, line_length (codes "node") (v.name ∷ asked_name w v.asks ∷ v.os ∷ map with_number v.desires), name_short v.name a.0, name_short (asked_name w v.asks) (asked_named w sound named v.asks b.0 known), name_short v.os d.0, desires, few)

  fix_length : (v : VirtNode) → Has w.nodes v → length (text_of (fix_lines v)) ≤ 75
  fix_length v h = by v.fixed (all_has (λ v. named_place v.fixed) w.nodes named.places v h)
    where
      by : (fixed : Option (List ℕ)) → named_place fixed ≡ true → length (text_of (fix_at v.name fixed)) ≤ 75
      by None place = omega arith
      by (Some place) place_named = fix_line_length v.name place (and_parts (is_name v.name) _ (all_has named_node w.nodes named.nodes v h)).0 place_named

  fixes_length : (nodes : List VirtNode) → ((v : VirtNode) → Has nodes v → length (text_of (fix_lines v)) ≤ 75) → length (text_of (flat_map fix_lines nodes)) ≤ 75 * length nodes
  fixes_length [] each = omega arith
  fixes_length (v ∷ nodes) each =
      let rest = fixes_length nodes (λ x h. each x (inr h)) in
      let both = flat_map-append line_text (fix_lines v) (flat_map fix_lines nodes) in
      let sum = ap length both ∙ length-append (text_of (fix_lines v)) (text_of (flat_map fix_lines nodes)) in
      let one : length (text_of (fix_lines v)) ≤ 75 = each v (inl refl) in
      omega (arith, rest, sum, one)

  link_length : (s : Segment) → Has w.segments s → length (line_text (link_fields w s)) ≤ 82 + 49 * length s.ends
  unfolding width
  link_length s h =
      let a = and_parts (is_name s.name) _ (all_has named_segment w.segments named.segments s h) in
      let b = and_parts (is_name s.owner) (list_all (λ e. is_address e.address) s.ends) a.1 in
      let limits = segment_limits s (all_has limits_segment w.segments (limits_of w (sound_tests w sound).limits).each_segment s h) in
      let kbps = digits s.kbps 10 (omega arith) (omega (arith, limits.slow)) (omega (arith, limits.slow)) in
      let ends = ends_width w s.ends (λ e g. end_length (virt_name w e.node) e.address (node_named_at w sound named e.node (end_within w sound named s h e g)) (all_has (λ (e : VirtEnd). is_address e.address) s.ends b.1 e g)) in
      omega (arith, line_length (codes "link") (s.name ∷ s.owner ∷ decimal s.kbps ∷ map (end_field w) s.ends), name_short s.name a.0, name_short s.owner b.0, kbps, ends)

  links_length : (segments : List Segment) → ((s : Segment) → Has segments s → length (line_text (link_fields w s)) ≤ 82 + 49 * length s.ends) → length (text_of (map (link_fields w) segments)) ≤ 82 * length segments + 49 * length (end_nodes segments)
  links_length [] each = omega arith
  links_length (s ∷ segments) each =
      let rest = links_length segments (λ x h. each x (inr h)) in
      let sum = length-append (line_text (link_fields w s)) (text_of (map (link_fields w) segments)) in
      let one : length (line_text (link_fields w s)) ≤ 82 + 49 * length s.ends = each s (inl refl) in
      let ends = length-append (map (λ (e : VirtEnd). e.node) s.ends) (end_nodes segments) in
      let own : length (map (λ (e : VirtEnd). e.node) s.ends) ≡ length s.ends = length-map s.ends (λ e. e.node) in
      omega (arith, rest, sum, one, ends, own)

  mark_length : (s : Segment) → Has w.segments s → length (text_of (multiplex_lines s)) ≤ 44
  mark_length s h = by s.multiplexed
    where
      by : (multiplexed : Bool) → length (text_of (multiplex_if s.name multiplexed)) ≤ 44
      by false = omega arith
      by true = multiplex_line_length s.name (and_parts (is_name s.name) _ (all_has named_segment w.segments named.segments s h)).0

  marks_length : (segments : List Segment) → ((s : Segment) → Has segments s → length (text_of (multiplex_lines s)) ≤ 44) → length (text_of (flat_map multiplex_lines segments)) ≤ 44 * length segments
  marks_length [] each = omega arith
  marks_length (s ∷ segments) each =
      let rest = marks_length segments (λ x h. each x (inr h)) in
      let both = flat_map-append line_text (multiplex_lines s) (flat_map multiplex_lines segments) in
      let sum = ap length both ∙ length-append (text_of (multiplex_lines s)) (text_of (flat_map multiplex_lines segments)) in
      let one : length (text_of (multiplex_lines s)) ≤ 44 = each s (inl refl) in
      omega (arith, rest, sum, one)

  pipe_length : (p : Pipe) → Has w.pipes p → length (line_text (pipe_fields w p)) ≤ 106
  unfolding width
  pipe_length p h =
      let facts = pipe_facts w sound named p h in
      let from = digits p.from 4 (omega arith) (omega (arith, facts.from)) (omega (arith, facts.from)) in
      let to = digits p.to 4 (omega arith) (omega (arith, facts.to)) (omega (arith, facts.to)) in
      let there = rates_width p.there facts.there in
      let back = rates_width p.back facts.back in
      let both = width-append (rates_fields p.there) (rates_fields p.back) in
      omega (arith, line_length (codes "pipe") (virt_name w p.node ∷ decimal p.from ∷ decimal p.to ∷ rates_fields p.there ++ rates_fields p.back), name_short (virt_name w p.node) (node_named_at w sound named p.node facts.node), from, to, there, back, both)

-- THE TEXT
pub top_length : (w : Wiring) → IsSound w → is_printable w ≡ true → length (canonical_top w) ≤ 16777216
top_length w sound printable =
    let named = named_of w printable in
    let limits = limits_of w (sound_tests w sound).limits in
    let classes = lines_length class_fields 317 w.classes (class_length w sound named) in
    let nodes = lines_length (node_fields w) 432 w.nodes (node_length w sound named) in
    let fixes = fixes_length w sound named w.nodes (fix_length w sound named) in
    let links = links_length w sound named w.segments (link_length w sound named) in
    let marks = marks_length w sound named w.segments (mark_length w sound named) in
    let pipes = lines_length (pipe_fields w) 106 w.pipes (pipe_length w sound named) in
    let a = ap length (flat_map-append line_text (map class_fields w.classes) (map (node_fields w) w.nodes)) ∙ length-append (text_of (map class_fields w.classes)) (text_of (map (node_fields w) w.nodes)) in
    let b = ap length (flat_map-append line_text (map class_fields w.classes ++ map (node_fields w) w.nodes) (flat_map fix_lines w.nodes)) ∙ length-append (text_of (map class_fields w.classes ++ map (node_fields w) w.nodes)) (text_of (flat_map fix_lines w.nodes)) in
    let c = ap length (flat_map-append line_text ((map class_fields w.classes ++ map (node_fields w) w.nodes) ++ flat_map fix_lines w.nodes) (map (link_fields w) w.segments)) ∙ length-append (text_of ((map class_fields w.classes ++ map (node_fields w) w.nodes) ++ flat_map fix_lines w.nodes)) (text_of (map (link_fields w) w.segments)) in
    let front = ((map class_fields w.classes ++ map (node_fields w) w.nodes) ++ flat_map fix_lines w.nodes) ++ map (link_fields w) w.segments in
    let d = ap length (flat_map-append line_text front (flat_map multiplex_lines w.segments)) ∙ length-append (text_of front) (text_of (flat_map multiplex_lines w.segments)) in
    let e = ap length (flat_map-append line_text (front ++ flat_map multiplex_lines w.segments) (map (pipe_fields w) w.pipes)) ∙ length-append (text_of (front ++ flat_map multiplex_lines w.segments)) (text_of (map (pipe_fields w) w.pipes)) in
    bound _ _ _ _ _ _ _ _ _ _ _ _ _ _ _ _ e d c b a classes nodes fixes links marks pipes limits.classes limits.nodes limits.segments limits.ends (few_pipes w sound)
  where
    bound : (all last most more some classes nodes fixes links marks pipes c n s e p : ℕ) → all ≡ last + pipes → last ≡ most + marks → most ≡ more + links → more ≡ some + fixes → some ≡ classes + nodes → classes ≤ 317 * c → nodes ≤ 432 * n → fixes ≤ 75 * n → links ≤ 82 * s + 49 * e → marks ≤ 44 * s → pipes ≤ 106 * p
        → c ≤ 64 → n ≤ 256 → s ≤ 512 → e ≤ 4096 → p ≤ e → all ≤ 16777216
    bound all last most more some classes nodes fixes links marks pipes c n s e p h1 h2 h3 h4 h5 a1 a2 a3 a4 a5 a6 l1 l2 l3 l4 l5 = omega arith
