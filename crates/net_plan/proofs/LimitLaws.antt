-- An expansion and the limits.
use Rattle.std.specs.Prelude.{nat_le, ◌&&◌, codes, decimal}
use Rattle.std.proofs.Common.{◌≡◌, ℕ, ◌+◌, ◌-◌, ◌/◌, ◌≤◌, Bool, true, false, cond, List, [], ◌∷◌, ◌++◌, length, map, sum_by, inl, inr, refl, sym, ◌∙◌, arith, length-append}
use Rattle.std.specs.List.{flat_map, list_all, enumerate_from, range_with_len}
use Rattle.std.proofs.lemmas.Bool.{and_parts, and_from, leb-true, le-leb}
use Rattle.std.proofs.lemmas.List.{length-map}
use Rattle.std.proofs.lemmas.List.Concat.{length-flat_map}
use Rattle.std.proofs.lemmas.List.Sums.{sum_by-cons}
use Rattle.std.proofs.lemmas.List.Folds.{list_all-append}
use Rattle.std.proofs.lemmas.List.FromFn.{length-map-range_with_len}
use Rattle.lab_base.specs.declared.rates.Rates.{Rates}
use Rattle.lab_base.proofs.Members.{all_has}
use Rattle.virt_topo.specs.declared.wiring.VirtEnd.{VirtEnd}
use Rattle.virt_topo.specs.declared.topo.AskedNode.{AskedNode}
use Rattle.virt_topo.specs.declared.topo.AskedLink.{AskedLink}
use Rattle.virt_topo.specs.Ends.{end_nodes}
use Rattle.virt_topo.specs.Soundness.{is_between, is_address, is_speed, are_rates, limits_class, limits_node, limits_segment, limits_pipe, keeps_limits}
use Rattle.virt_topo.specs.Topos.{Topo, IsTopo, limits_link, most_ends}
use Rattle.net_plan.specs.Parts.{IsExpandable, AreExpandable, is_shaped, asked_node, delays, delay_nodes, delay_node, member_node_name, part, delay_end, member_segment, lan_segments, link_segments, segments_of, link_pipe, lan_pipe, pipes_of}
use Rattle.net_plan.specs.Expansion.{numbered, wired}
use Rattle.net_plan.proofs.Counts.{length-lan, length-lan_ends, end_nodes-append, few_ends, measured}

pub expandable : (t : Topo) → IsTopo t → AreExpandable t.links
expandable t is l h = record { short = (is.link_names l h).short; limits = all_has limits_link t.links l is.links h }

-- HOW MANY PARTS THERE ARE

pub length-delay_nodes : (l : AskedLink) → length (delay_nodes l) ≡ delays l
length-delay_nodes l = by (is_shaped l.rates) l.lan
  where
    by : (shaped lan : Bool) → length (cond shaped (cond lan (map (λ i. delay_node (member_node_name l i)) (range_with_len 1 (length l.ends))) (delay_node (l.name ++ codes ".d") ∷ [])) []) ≡ cond shaped (cond lan (length l.ends) 1) 0
    by true true = length-map-range_with_len (λ i. delay_node (member_node_name l i)) 1 (length l.ends)
    by true false = refl
    by false lan = refl

sum_by-same : (f g : AskedLink → ℕ) → ((l : AskedLink) → f l ≡ g l) → (links : List AskedLink) → sum_by f links ≡ sum_by g links
sum_by-same f g same [] = refl
sum_by-same f g same (l ∷ links) = sum_by-cons f l links ∙ (λ i. same l i + sum_by-same f g same links i) ∙ sym (sum_by-cons g l links)

pub length-nodes : (t : Topo) (links : List AskedLink) → length (wired t links).nodes ≡ length t.nodes + sum_by delays links
length-nodes t links =
    let both = length-append (map asked_node t.nodes) (flat_map delay_nodes links) in
    let asked = length-map t.nodes asked_node in
    let own = length-flat_map delay_nodes links in
    let same = sum_by-same (λ l. length (delay_nodes l)) delays length-delay_nodes links in
    omega (arith, both, asked, own, same)

same-count : (l : AskedLink) (first : ℕ) → length (segments_of (first, l)) ≡ length (segments_of (0, l))
same-count l first = by (is_shaped l.rates) l.lan
  where
    two : (first : ℕ) (ends : List VirtEnd) → length (link_segments l first ends) ≡ length (link_segments l 0 ends)
    two first [] = refl
    two first (a ∷ []) = refl
    two first (a ∷ b ∷ []) = refl
    two first (a ∷ b ∷ c ∷ ends) = refl

    by : (shaped lan : Bool) → length (cond shaped (cond lan (lan_segments l first) (link_segments l first l.ends)) (part l l.name l.ends ∷ [])) ≡ length (cond shaped (cond lan (lan_segments l 0) (link_segments l 0 l.ends)) (part l l.name l.ends ∷ []))
    by true true = length-lan l first ∙ sym (length-lan l 0)
    by true false = two first l.ends
    by false lan = refl

same-ends : (l : AskedLink) (first : ℕ) → length (end_nodes (segments_of (first, l))) ≡ length (end_nodes (segments_of (0, l)))
same-ends l first = by (is_shaped l.rates) l.lan
  where
    two : (first : ℕ) (ends : List VirtEnd) → length (end_nodes (link_segments l first ends)) ≡ length (end_nodes (link_segments l 0 ends))
    two first [] = refl
    two first (a ∷ []) = refl
    two first (a ∷ b ∷ []) = refl
    two first (a ∷ b ∷ c ∷ ends) = refl

    by : (shaped lan : Bool) → length (end_nodes (cond shaped (cond lan (lan_segments l first) (link_segments l first l.ends)) (part l l.name l.ends ∷ []))) ≡ length (end_nodes (cond shaped (cond lan (lan_segments l 0) (link_segments l 0 l.ends)) (part l l.name l.ends ∷ [])))
    by true true = length-lan_ends l first ∙ sym (length-lan_ends l 0)
    by true false = two first l.ends
    by false lan = refl

pub length-segments : (first : ℕ) (links : List AskedLink) → length (flat_map segments_of (numbered first links)) ≡ sum_by (λ l. length (segments_of (0, l))) links
length-segments first [] = refl
length-segments first (l ∷ links) =
    let both = length-append (segments_of (first, l)) (flat_map segments_of (numbered (first + delays l) links)) in
    omega (arith, both, same-count l first, length-segments (first + delays l) links, sum_by-cons (λ m. length (segments_of (0, m))) l links)

pub length-ends : (first : ℕ) (links : List AskedLink) → length (end_nodes (flat_map segments_of (numbered first links))) ≡ sum_by (λ l. length (end_nodes (segments_of (0, l)))) links
length-ends first [] = refl
length-ends first (l ∷ links) =
    let both = end_nodes-append (segments_of (first, l)) (flat_map segments_of (numbered (first + delays l) links)) in
    omega (arith, both, same-ends l first, length-ends (first + delays l) links, sum_by-cons (λ m. length (end_nodes (segments_of (0, m)))) l links)

-- THE LIMITS OF EACH PART

pub nodes_keep : (t : Topo) (links : List AskedLink) → list_all limits_node (wired t links).nodes ≡ true
nodes_keep t links = list_all-append limits_node (map asked_node t.nodes) (flat_map delay_nodes links) ∙ and_from _ _ (asked t.nodes) (delayed links)
  where
    asked : (nodes : List AskedNode) → list_all limits_node (map asked_node nodes) ≡ true
    asked [] = refl
    asked (n ∷ nodes) = asked nodes

    named : (l : AskedLink) (is : List ℕ) → list_all limits_node (map (λ i. delay_node (member_node_name l i)) is) ≡ true
    named l [] = refl
    named l (i ∷ is) = named l is

    by : (l : AskedLink) (shaped lan : Bool) → list_all limits_node (cond shaped (cond lan (map (λ i. delay_node (member_node_name l i)) (range_with_len 1 (length l.ends))) (delay_node (l.name ++ codes ".d") ∷ [])) []) ≡ true
    by l true true = named l (range_with_len 1 (length l.ends))
    by l true false = refl
    by l false lan = refl

    delayed : (links : List AskedLink) → list_all limits_node (flat_map delay_nodes links) ≡ true
    delayed [] = refl
    delayed (l ∷ links) = list_all-append limits_node (delay_nodes l) (flat_map delay_nodes links) ∙ and_from _ _ (by l (is_shaped l.rates) l.lan) (delayed links)

-- what an expandable link keeps
record Kept (l : AskedLink) : Type 0 where
  rates : are_rates l.rates ≡ true
  speed : is_speed l.rates.kbps ≡ true
  addresses : list_all (λ e. is_address e.address) l.ends ≡ true
  some : 2 ≤ length l.ends
  few : length l.ends ≤ 254

kept : (l : AskedLink) → IsExpandable l → Kept l
kept l e =
    let p1 = and_parts (are_rates l.rates) _ e.limits in
    let p2 = and_parts (is_between 2 (most_ends l.lan) (length l.ends)) _ p1.1 in
    record {
      rates = p1.0;
      speed = (and_parts (is_speed l.rates.kbps) _ p1.0).0;
      addresses = p2.1;
      some = (measured l e).some;
      few = few_ends l e;
    }

part_keeps : (l : AskedLink) (name : List ℕ) (ends : List VirtEnd) → is_speed l.rates.kbps ≡ true → 2 ≤ length ends → length ends ≤ 256 → list_all (λ e. is_address e.address) ends ≡ true → limits_segment (part l name ends) ≡ true
part_keeps l name ends speed some few addresses =
    and_from _ _ speed (and_from _ _ (and_from _ _ (le-leb 2 (length ends) some) (le-leb (length ends) 256 few)) addresses)

members_keep : (l : AskedLink) (first n : ℕ) (ends : List VirtEnd) → is_speed l.rates.kbps ≡ true → list_all (λ e. is_address e.address) ends ≡ true → list_all limits_segment (map (member_segment l first) (enumerate_from n ends)) ≡ true
members_keep l first n [] speed addresses = refl
members_keep l first n (e ∷ ends) speed addresses =
    let parts = and_parts (is_address e.address) (list_all (λ d. is_address d.address) ends) addresses in
    and_from _ _ (part_keeps l (l.name ++ (codes ".m" ++ decimal (n + 1))) (e ∷ delay_end (first + n) ∷ []) speed (omega arith) (omega arith) (and_from _ _ parts.0 refl))
    (members_keep l first (n + 1) ends speed parts.1)

delay_addresses : (is : List ℕ) → list_all (λ e. is_address e.address) (map delay_end is) ≡ true
delay_addresses [] = refl
delay_addresses (i ∷ is) = delay_addresses is

pub segments_keep : (l : AskedLink) (first : ℕ) → IsExpandable l → list_all limits_segment (segments_of (first, l)) ≡ true
segments_keep l first e = by (is_shaped l.rates) l.lan
  where
    two : (k : Kept l) (ends : List VirtEnd) → list_all (λ d. is_address d.address) ends ≡ true → list_all limits_segment (link_segments l first ends) ≡ true
    two k [] all = refl
    two k (a ∷ []) all = refl
    two k (a ∷ b ∷ []) all =
        let p1 = and_parts (is_address a.address) _ all in
        let p2 = and_parts (is_address b.address) _ p1.1 in
        and_from _ _ (part_keeps l (l.name ++ codes ".0") (a ∷ delay_end first ∷ []) k.speed (omega arith) (omega arith) (and_from _ _ p1.0 refl))
        (and_from _ _ (part_keeps l (l.name ++ codes ".1") (delay_end first ∷ b ∷ []) k.speed (omega arith) (omega arith) (and_from _ _ p2.0 refl)) refl)
    two k (a ∷ b ∷ c ∷ ends) all = refl

    many : (k : Kept l) → list_all limits_segment (lan_segments l first) ≡ true
    many k =
        let count = length-map-range_with_len delay_end first (length l.ends) in
        list_all-append limits_segment (map (member_segment l first) (enumerate_from 0 l.ends)) (part l l.name (map delay_end (range_with_len first (length l.ends))) ∷ [])
        ∙ and_from _ _ (members_keep l first 0 l.ends k.speed k.addresses)
        (and_from _ _ (part_keeps l l.name (map delay_end (range_with_len first (length l.ends))) k.speed (omega (arith, count, k.some)) (omega (arith, count, k.few)) (delay_addresses (range_with_len first (length l.ends)))) refl)

    by : (shaped lan : Bool) → list_all limits_segment (cond shaped (cond lan (lan_segments l first) (link_segments l first l.ends)) (part l l.name l.ends ∷ [])) ≡ true
    by true true = many (kept l e)
    by true false = two (kept l e) l.ends (kept l e).addresses
    by false lan = let k = kept l e in and_from _ _ (part_keeps l l.name l.ends k.speed k.some (omega (arith, k.few)) k.addresses) refl

pub all_segments_keep : (first : ℕ) (links : List AskedLink) → AreExpandable links → list_all limits_segment (flat_map segments_of (numbered first links)) ≡ true
all_segments_keep first [] are = refl
all_segments_keep first (l ∷ links) are =
    list_all-append limits_segment (segments_of (first, l)) (flat_map segments_of (numbered (first + delays l) links))
    ∙ and_from _ _ (segments_keep l first (are l (inl refl))) (all_segments_keep (first + delays l) links (λ m h. are m (inr h)))

pub pipe_keeps : (rates : Rates) (node : ℕ) → are_rates rates ≡ true → limits_pipe (lan_pipe rates node) ≡ true
pipe_keeps rates node is =
    let p1 = and_parts (is_speed rates.kbps) _ is in
    let p2 = and_parts (nat_le rates.micros 10000000) _ p1.1 in
    let micros = leb-true rates.micros 10000000 p2.0 in
    and_from _ _ (and_from _ _ p1.0 (and_from _ _ (le-leb (rates.micros / 2) 10000000 (omega arith)) p2.1))
    (and_from _ _ p1.0 (and_from _ _ (le-leb (rates.micros - rates.micros / 2) 10000000 (omega arith)) refl))

pub pipes_keep : (l : AskedLink) (first : ℕ) → IsExpandable l → list_all limits_pipe (pipes_of (first, l)) ≡ true
pipes_keep l first e = by (is_shaped l.rates) l.lan
  where
    many : (is : List ℕ) → are_rates l.rates ≡ true → list_all limits_pipe (map (lan_pipe l.rates) is) ≡ true
    many [] rates = refl
    many (i ∷ is) rates = and_from _ _ (pipe_keeps l.rates i rates) (many is rates)

    by : (shaped lan : Bool) → list_all limits_pipe (cond shaped (cond lan (map (lan_pipe l.rates) (range_with_len first (length l.ends))) (link_pipe l.rates first ∷ [])) []) ≡ true
    by true true = many (range_with_len first (length l.ends)) (kept l e).rates
    by true false = and_from _ _ (and_from _ _ (kept l e).rates (kept l e).rates) refl
    by false lan = refl

pub all_pipes_keep : (first : ℕ) (links : List AskedLink) → AreExpandable links → list_all limits_pipe (flat_map pipes_of (numbered first links)) ≡ true
all_pipes_keep first [] are = refl
all_pipes_keep first (l ∷ links) are =
    list_all-append limits_pipe (pipes_of (first, l)) (flat_map pipes_of (numbered (first + delays l) links))
    ∙ and_from _ _ (pipes_keep l first (are l (inl refl))) (all_pipes_keep (first + delays l) links (λ m h. are m (inr h)))

-- SO THREE NUMBERS TELL

abbrev pub few_parts : Topo → List AskedLink → Bool
few_parts t links =
    nat_le (length t.nodes + sum_by delays links) 256
    && (nat_le (sum_by (λ l. length (segments_of (0, l))) links) 512
    && nat_le (sum_by (λ l. length (end_nodes (segments_of (0, l)))) links) 4096)

pub keeps-few : (t : Topo) (links : List AskedLink) → IsTopo t → AreExpandable links → keeps_limits (wired t links) ≡ few_parts t links
keeps-few t links is are =
    let w = wired t links in
    let classes : nat_le (length t.classes) 64 ≡ true = le-leb (length t.classes) 64 is.few_classes in
    let rest : (list_all limits_class t.classes && (list_all limits_node w.nodes && (list_all limits_segment w.segments && list_all limits_pipe w.pipes))) ≡ true =
    and_from _ _ is.classes (and_from _ _ (nodes_keep t links) (and_from _ _ (all_segments_keep (length t.nodes) links are) (all_pipes_keep (length t.nodes) links are))) in
    let nodes = length-nodes t links in
    let segments = length-segments (length t.nodes) links in
    let ends = length-ends (length t.nodes) links in
    (λ i. classes i && (nat_le (nodes i) 256 && (nat_le (segments i) 512 && (nat_le (ends i) 4096 && rest i))))
    ∙ and_true (nat_le (length t.nodes + sum_by delays links) 256) (nat_le (sum_by (λ l. length (segments_of (0, l))) links) 512) (nat_le (sum_by (λ l. length (end_nodes (segments_of (0, l)))) links) 4096)
  where
    and_true : (a b c : Bool) → (a && (b && (c && true))) ≡ (a && (b && c))
    and_true false b c = refl
    and_true true false c = refl
    and_true true true false = refl
    and_true true true true = refl
