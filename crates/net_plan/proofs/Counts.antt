-- How many parts a link or LAN has.
use Rattle.std.specs.Prelude.{nat_le}
use Rattle.std.proofs.Common.{◌≡◌, ℕ, ◌+◌, ◌*◌, ◌≤◌, Bool, true, false, cond, List, [], ◌∷◌, ◌++◌, length, map, refl, ◌∙◌, arith, length-append}
use Rattle.std.specs.List.{enumerate_from, range_with_len}
use Rattle.std.proofs.lemmas.Bool.{and_parts, leb-true}
use Rattle.std.proofs.lemmas.List.{length-map}
use Rattle.std.proofs.lemmas.List.FromFn.{length-enumerate_from, length-map-range_with_len}
use Rattle.virt_topo.specs.declared.wiring.VirtEnd.{VirtEnd}
use Rattle.virt_topo.specs.declared.wiring.Segment.{Segment}
use Rattle.virt_topo.specs.declared.topo.AskedLink.{AskedLink}
use Rattle.virt_topo.specs.Ends.{end_nodes}
use Rattle.virt_topo.specs.Topos.{most_ends}
use Rattle.net_plan.specs.Parts.{IsExpandable, is_shaped, delays, part, delay_end, member_segment, lan_segments, link_segments, segments_of}

-- what the limits say of the ends
pub record IsMeasured (l : AskedLink) : Type 0 where
  pub some : 2 ≤ length l.ends
  pub few : length l.ends ≤ most_ends l.lan

pub measured : (l : AskedLink) → IsExpandable l → IsMeasured l
measured l e =
    let p1 = and_parts _ _ e.limits in
    let p2 = and_parts _ _ p1.1 in
    let p3 = and_parts (nat_le 2 (length l.ends)) _ p2.0 in
    record { some = leb-true 2 (length l.ends) p3.0; few = leb-true (length l.ends) (most_ends l.lan) p3.1 }

pub few_ends : (l : AskedLink) → IsExpandable l → length l.ends ≤ 254
few_ends l e = by l.lan (measured l e).few
  where
    by : (lan : Bool) → length l.ends ≤ most_ends lan → length l.ends ≤ 254
    by true h = h
    by false h = omega arith

pub two_ends : (l : AskedLink) → IsExpandable l → l.lan ≡ false → length l.ends ≡ 2
two_ends l e is =
    let m = measured l e in
    let few : length l.ends ≤ 2 = by l.lan is m.few in
    omega (arith, m.some)
  where
    by : (lan : Bool) → lan ≡ false → length l.ends ≤ most_ends lan → length l.ends ≤ 2
    by true is h = absurd (cc is)
    by false is h = h

pub few_delays : (l : AskedLink) → IsExpandable l → delays l ≤ 254
few_delays l e = by (is_shaped l.rates) l.lan
  where
    by : (shaped lan : Bool) → cond shaped (cond lan (length l.ends) 1) 0 ≤ 254
    by true true = few_ends l e
    by true false = omega arith
    by false lan = omega arith

-- LANS

pub length-members : (l : AskedLink) (first n : ℕ) (ends : List VirtEnd) → length (end_nodes (map (member_segment l first) (enumerate_from n ends))) ≡ 2 * length ends
length-members l first n [] = refl
length-members l first n (e ∷ ends) = let rest = length-members l first (n + 1) ends in omega arith

pub length-lan : (l : AskedLink) (first : ℕ) → length (lan_segments l first) ≡ length l.ends + 1
length-lan l first =
    let members = map (member_segment l first) (enumerate_from 0 l.ends) in
    let hub = part l l.name (map delay_end (range_with_len first (length l.ends))) in
    let both = length-append members (hub ∷ []) in
    omega (arith, both, length-map (enumerate_from 0 l.ends) (member_segment l first), length-enumerate_from 0 l.ends)

pub end_nodes-append : (xs ys : List Segment) → length (end_nodes (xs ++ ys)) ≡ length (end_nodes xs) + length (end_nodes ys)
end_nodes-append [] ys = omega arith
end_nodes-append (x ∷ xs) ys =
    let rest = end_nodes-append xs ys in
    let nodes = map (λ e. e.node) x.ends in
    omega (arith, length-append nodes (end_nodes (xs ++ ys)), length-append nodes (end_nodes xs), rest)

pub length-lan_ends : (l : AskedLink) (first : ℕ) → length (end_nodes (lan_segments l first)) ≡ 3 * length l.ends
length-lan_ends l first =
    let members = map (member_segment l first) (enumerate_from 0 l.ends) in
    let ends = map delay_end (range_with_len first (length l.ends)) in
    let nodes = map (λ e. e.node) ends in
    let both = end_nodes-append members (part l l.name ends ∷ []) in
    let hub : length (nodes ++ []) ≡ length l.ends = omega (arith, length-append nodes [], length-map ends (λ e. e.node), length-map-range_with_len delay_end first (length l.ends)) in
    omega (arith, both, length-members l first 0 l.ends, hub)

-- OF A SHAPED LAN

pub lan_count : (l : AskedLink) → is_shaped l.rates ≡ true → l.lan ≡ true → length (segments_of (0, l)) ≡ length l.ends + 1
lan_count l shaped lan = (λ i. length (cond (shaped i) (cond (lan i) (lan_segments l 0) (link_segments l 0 l.ends)) (part l l.name l.ends ∷ []))) ∙ length-lan l 0

pub lan_count_ends : (l : AskedLink) → is_shaped l.rates ≡ true → l.lan ≡ true → length (end_nodes (segments_of (0, l))) ≡ 3 * length l.ends
lan_count_ends l shaped lan = (λ i. length (end_nodes (cond (shaped i) (cond (lan i) (lan_segments l 0) (link_segments l 0 l.ends)) (part l l.name l.ends ∷ [])))) ∙ length-lan_ends l 0
