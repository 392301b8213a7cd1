-- The lines of a printed wiring are read again.
use Rattle.std.proofs.Common.{◌≡◌, ℕ, zero, suc, ◌+◌, ◌-◌, ◌%◌, ◌<◌, ◌≤◌, Bool, true, false, not, cond, eqb, List, [], ◌∷◌, ◌++◌, length, map, Option, Some, None, Result, Ok, Err, refl, sym, ap, subst, ◌∙◌, arith}
use Rattle.std.specs.Prelude.{decimal, nat_le}
use Rattle.std.specs.List.{list_all, list_any, position}
use Rattle.std.proofs.lemmas.Bool.{and_parts, and_from, or_parts, eqb-true, not_from_false, leb-true, ltb-true, le-leb}
use Rattle.std.proofs.lemmas.List.{append-nil, length-map}
use Rattle.std.proofs.lemmas.Simd.{map-map}
use Rattle.lab_base.specs.Names.{is_name, same_name}
use Rattle.lab_base.specs.Kinds.{both_of}
use Rattle.lab_base.specs.Parts.{name_of, all_of}
use Rattle.lab_base.specs.Lists.{Has}
use Rattle.lab_base.specs.declared.fault.Kind.{Kind}
use Rattle.lab_base.specs.declared.fault.Kind.TheVariants as kinds
use Rattle.lab_base.specs.declared.rates.Rates.{Rates}
use Rattle.lab_base.proofs.Members.{Has-map}
use Rattle.lab_base.proofs.Bytes.{bytes_turned, bytes_self}
use Rattle.line_text.specs.Fields.{counts}
use Rattle.line_text.specs.Printing.{with_number}
use Rattle.line_text.specs.Pairs.{pair_at}
use Rattle.line_text.specs.Rates.{rates_fields}
use Rattle.line_text.proofs.PartsAgain.{position_none, no_byte, no_byte_name, has_again, pair_again, name_again, number_back, numbered_again, all_again, all_has}
use Rattle.line_text.proofs.RatesAgain.{HoldLimits, AreWithin, rates_again}
use Rattle.virt_topo.specs.declared.wiring.Asks.{Asks}
use Rattle.virt_topo.specs.declared.wiring.Asks.TheVariants.{Plain, Class as InClass}
use Rattle.virt_topo.specs.declared.wiring.Class.{Class}
use Rattle.virt_topo.specs.declared.wiring.VirtNode.{VirtNode}
use Rattle.virt_topo.specs.declared.wiring.VirtEnd.{VirtEnd}
use Rattle.virt_topo.specs.declared.wiring.Segment.{Segment}
use Rattle.virt_topo.specs.declared.wiring.Pipe.{Pipe}
use Rattle.virt_topo.specs.declared.wiring.Wiring.{Wiring}
use Rattle.virt_topo.specs.Ends.{end_number}
use Rattle.virt_topo.specs.Repeats.{stands_again}
use Rattle.virt_topo.specs.Soundness.{is_speed, are_rates, limits_class, limits_node, knows_class, asks_class_name}
use Rattle.virt_topo.specs.Soundness as soundness
use Rattle.virt_topo.proofs.CableLaws.{SegmentLimits}
use Rattle.top_text.specs.Lines.{End, bare, addressed, end_parts, end_in_field, weight_of, pipe_rates, as_class, class_line, node_line, fix_line, link_line, multiplex_line, pipe_line}
use Rattle.top_text.specs.Adding.{asks_at}
use Rattle.top_text.specs.Canonical.{virt_name, class_name, after_name, address_text, end_field, asked_name}
use Rattle.top_text.specs.Printable.{named_class, named_asks, named_node, named_segment, is_address}
use Rattle.top_text.proofs.AddressAgain.{address_again, no_equals}
use Rattle.top_text.proofs.OwnPlaces.{own_place}

map_self : {X : Type 0} (xs : List X) → map (λ x. x) xs ≡ xs
map_self [] = refl
map_self {X} (x ∷ xs) = ap (λ (l : List X). x ∷ l) (map_self xs)

after_again : {X : Type 0} (n least most : ℕ) (read : List ℕ → Result X Kind) (fields rest : List (List ℕ)) (xs : List X) → n + least ≤ length fields → length fields ≤ n + most → all_of read (Ok []) rest ≡ Ok xs
    → cond (counts (n + least) (n + most) fields) (all_of read (Ok []) rest) (Err kinds.Fields) ≡ Ok xs
after_again {X} n least most read fields rest xs low high is =
    ap (λ (b : Bool). cond b (all_of read (Ok []) rest) (Err kinds.Fields)) (and_from _ _ (le-leb (n + least) (length fields) low) (le-leb (length fields) (n + most) high)) ∙ is

names_again : (names : List (List ℕ)) → list_all is_name names ≡ true → all_of name_of (Ok []) names ≡ Ok names
names_again names named =
    ap (all_of name_of (Ok [])) (sym (map_self names)) ∙ all_again name_of (λ x. x) names [] (λ x h. name_again x (all_has is_name names named x h))

-- A CLASS

pub class_again : (c : Class) → named_class c ≡ true → limits_class c ≡ true → class_line (c.name ∷ decimal c.weight ∷ c.types) ≡ Ok c
class_again c named limits =
    let n = and_parts (is_name c.name) (list_all is_name c.types) named in
    let l = and_parts (nat_le c.weight 1000000) _ limits in
    let count = and_parts (nat_le 1 (length c.types)) (nat_le (length c.types) 8) l.1 in
    let low = leb-true 1 (length c.types) count.0 in
    let high = leb-true (length c.types) 8 count.1 in
    let weight = leb-true c.weight 1000000 l.0 in
    λ j. as_class (both_of (name_again c.name n.0 j) (both_of (number_back 0 1000000 c.weight (omega arith) weight (omega arith) j)
    (after_again 2 1 8 name_of (c.name ∷ decimal c.weight ∷ c.types) c.types c.types (omega (arith, low)) (omega (arith, high)) (names_again c.types n.1) j)))

-- A VIRTUAL NODE

pub node_again : (v : VirtNode) (asked : List ℕ) → named_node v ≡ true → limits_node v ≡ true → is_name asked ≡ true → node_line (v.name ∷ asked ∷ v.os ∷ map with_number v.desires) ≡ Ok (v.name, (asked, (v.os, v.desires)))
node_again v asked named limits asked_is =
    let a = and_parts (is_name v.name) _ named in
    let b = and_parts (named_asks v.asks) _ a.1 in
    let d = and_parts (is_name v.os) (list_all (λ d. is_name d.0) v.desires) b.1 in
    let l = and_parts (nat_le (length v.desires) 8) (list_all (λ d. nat_le d.1 1000000) v.desires) limits in
    let few = leb-true (length v.desires) 8 l.0 in
    let count : length (map with_number v.desires) ≡ length v.desires = length-map v.desires with_number in
    let desires : all_of weight_of (Ok []) (map with_number v.desires) ≡ Ok v.desires =
    all_again weight_of with_number v.desires [] (λ x h. numbered_again 0 1000000 x.0 x.1 (all_has (λ d. is_name d.0) v.desires d.1 x h) (omega arith) (leb-true x.1 1000000 (all_has (λ d. nat_le d.1 1000000) v.desires l.1 x h)) (omega arith)) in
    λ j. both_of (name_again v.name a.0 j) (both_of (name_again asked asked_is j) (both_of (name_again v.os d.0 j)
    (after_again 3 0 8 weight_of (v.name ∷ asked ∷ v.os ∷ map with_number v.desires) (map with_number v.desires) v.desires (omega arith) (omega (arith, few, count)) desires j)))

-- the class or the type that a virtual node asks for
pub asks_again : (w : Wiring) (asks : Asks) → stands_again (λ a b. same_name a.name b.name) w.classes ≡ false → knows_class w asks ≡ true → asks_class_name w.classes asks ≡ false
    → asks_at (asked_name w asks) (position (λ c. same_name (asked_name w asks) c.name) w.classes) ≡ asks
asks_again w (Plain type) once known apart = ap (asks_at type) (position_none (λ c. same_name type c.name) w.classes (none w.classes apart))
  where
    none : (classes : List Class) → list_any (λ c. same_name c.name type) classes ≡ false → list_all (λ c. not (same_name type c.name)) classes ≡ true
    none [] h = refl
    none (c ∷ classes) h =
        let parts = or_parts (same_name c.name type) (list_any (λ c. same_name c.name type) classes) h in
        and_from _ _ (not_from_false _ (bytes_turned type c.name ∙ parts.0)) (none classes parts.1)
asks_again w (InClass c) once known apart =
    ap (asks_at (class_name w c)) (own_place same_name bytes_self bytes_turned (λ (k : Class). k.name) w.classes c [] once (ltb-true c (length w.classes) known))

-- A FIXED PLACE

pub fix_again : (name place : List ℕ) → is_name name ≡ true → is_name place ≡ true → fix_line (name ∷ place ∷ []) ≡ Ok (name, place)
fix_again name place n p = λ j. both_of (name_again name n j) (name_again place p j)

-- A SEGMENT

abbrev pub end_read : Wiring → VirtEnd → End
end_read w e = (virt_name w e.node, e.address)

abbrev end_text : End → List ℕ
end_text end = end.0 ++ after_name end.1

end_again : (name : List ℕ) (address : Option ℕ) → is_name name ≡ true → is_address address ≡ true → soundness.is_address address ≡ true → end_in_field (name ++ after_name address) ≡ Ok (name, address)
end_again name None named short last =
    ap end_in_field (append-nil name)
    ∙ ap (λ (b : Bool). cond b (end_parts (pair_at 61 name)) (bare (name_of name))) (no_byte 61 name (no_byte_name 61 refl name named))
    ∙ ap bare (name_again name named)
end_again name (Some a) named short last =
    let p = and_parts (nat_le 1 (a % 256)) (nat_le (a % 256) 254) last in
    ap (λ (b : Bool). cond b (end_parts (pair_at 61 (name ++ 61 ∷ address_text a))) (bare (name_of (name ++ 61 ∷ address_text a)))) (has_again 61 name (address_text a) (no_byte_name 61 refl name named))
    ∙ ap end_parts (pair_again 61 name (address_text a) (no_byte_name 61 refl name named) (no_equals a (ltb-true a 4294967296 short)))
    ∙ (λ j. addressed (both_of (name_again name named j) (address_again a (ltb-true a 4294967296 short) (leb-true 1 (a % 256) p.0) (leb-true (a % 256) 254 p.1) j)))

ends_again : (w : Wiring) (ends : List VirtEnd) → ((e : VirtEnd) → Has ends e → end_in_field (end_field w e) ≡ Ok (end_read w e)) → all_of end_in_field (Ok []) (map (end_field w) ends) ≡ Ok (map (end_read w) ends)
ends_again w ends each =
    ap (all_of end_in_field (Ok [])) (sym (map-map end_text (end_read w) ends))
    ∙ all_again end_in_field end_text (map (end_read w) ends) [] (λ r h. let at = Has-map (end_read w) ends r h in subst (λ (r : End). end_in_field (end_text r) ≡ Ok r) at.2 (each at.0 at.1))

pub link_again : (w : Wiring) (s : Segment) → named_segment s ≡ true → SegmentLimits s → ((e : VirtEnd) → Has s.ends e → is_name (virt_name w e.node) ≡ true)
    → link_line (s.name ∷ s.owner ∷ decimal s.kbps ∷ map (end_field w) s.ends) ≡ Ok (s.name, (s.owner, (s.kbps, map (end_read w) s.ends)))
link_again w s named limits ends_named =
    let a = and_parts (is_name s.name) _ named in
    let b = and_parts (is_name s.owner) (list_all (λ e. is_address e.address) s.ends) a.1 in
    let count : length (map (end_field w) s.ends) ≡ length s.ends = length-map s.ends (end_field w) in
    let ends = ends_again w s.ends (λ e h. end_again (virt_name w e.node) e.address (ends_named e h) (all_has (λ e. is_address e.address) s.ends b.1 e h) (all_has (λ e. soundness.is_address e.address) s.ends limits.addresses e h)) in
    λ j. both_of (name_again s.name a.0 j) (both_of (name_again s.owner b.0 j) (both_of (number_back 1 1000000000 s.kbps limits.some limits.slow (omega arith) j)
    (after_again 3 2 256 end_in_field (s.name ∷ s.owner ∷ decimal s.kbps ∷ map (end_field w) s.ends) (map (end_field w) s.ends) (map (end_read w) s.ends) (omega (arith, limits.two, count)) (omega (arith, limits.few, count)) ends j)))

-- A MULTIPLEXED SEGMENT

pub multiplex_again : (name : List ℕ) → is_name name ≡ true → multiplex_line (name ∷ []) ≡ Ok name
multiplex_again name n = name_again name n

-- A PIPE

pub rates_within : (r : Rates) → are_rates r ≡ true → AreWithin pipe_rates r
rates_within r h =
    let a = and_parts (is_speed r.kbps) _ h in
    let b = and_parts (nat_le 1 r.kbps) (nat_le r.kbps 1000000000) a.0 in
    let d = and_parts (nat_le r.micros 10000000) (nat_le r.ppm 1000000) a.1 in
    record { some = leb-true 1 r.kbps b.0; slow = leb-true r.kbps 1000000000 b.1; late = leb-true r.micros 10000000 d.0; lost = leb-true r.ppm 1000000 d.1 }

pub held : HoldLimits pipe_rates
held = record { kbps = omega arith; micros = omega arith; ppm = omega arith }

pub pipe_again : (name : List ℕ) (p : Pipe) → is_name name ≡ true → p.from ≤ 65535 → p.to ≤ 65535 → are_rates p.there ≡ true → are_rates p.back ≡ true
    → pipe_line (name ∷ decimal p.from ∷ decimal p.to ∷ rates_fields p.there ++ rates_fields p.back) ≡ Ok (name, ((p.from, p.to), (p.there, p.back)))
pipe_again name p named from to there back =
    λ j. both_of (name_again name named j) (both_of (both_of (number_back 0 65535 p.from (omega arith) from (omega arith) j) (number_back 0 65535 p.to (omega arith) to (omega arith) j))
    (both_of (rates_again pipe_rates p.there held (rates_within p.there there) j) (rates_again pipe_rates p.back held (rates_within p.back back) j)))

-- the end v:k is not among the first k ends
pub number_high : (ends : List ℕ) (v k : ℕ) → end_number ends v k < length ends → k ≤ end_number ends v k
number_high [] v k lt = absurd (omega arith)
number_high (x ∷ ends) v k lt = by (eqb x v) k lt (λ k. number_high ends v k)
  where
    by : (b : Bool) (k : ℕ) → cond b (cond (eqb k 0) 0 (end_number ends v (k - 1) + 1)) (end_number ends v k + 1) < suc (length ends) → ((k : ℕ) → end_number ends v k < length ends → k ≤ end_number ends v k)
        → k ≤ cond b (cond (eqb k 0) 0 (end_number ends v (k - 1) + 1)) (end_number ends v k + 1)
    by false k lt rest = omega (arith, rest k (omega arith))
    by true zero lt rest = omega arith
    by true (suc k) lt rest = one (suc k) (eqb (suc k) 0) refl lt rest
      where
        one : (n : ℕ) (b : Bool) → eqb n 0 ≡ b → cond b 0 (end_number ends v (n - 1) + 1) < suc (length ends) → ((k : ℕ) → end_number ends v k < length ends → k ≤ end_number ends v k) → n ≤ cond b 0 (end_number ends v (n - 1) + 1)
        one n true e lt rest = let none : n ≡ 0 = eqb-true n 0 e in omega arith
        one n false e lt rest = omega (arith, rest (n - 1) (omega arith))
